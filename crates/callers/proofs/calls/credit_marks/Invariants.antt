use Rattle.std.proofs.Common.{◌≡◌, take}
use Rattle.datapath.specs.Crossed.{marks_of}
use Rattle.callers.proofs.calls.credit_marks.Given as goal

abbrev pub invariant-loop-mark : goal.invariant-loop-mark
invariant-loop-mark g l = marks_of l.crossed ≡ take l.mark-index l.mark-items
