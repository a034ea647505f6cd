use Rattle.std.proofs.Common.{◌-◌, ◌≤◌, length}
use Rattle.capture.proofs.reader.read_full.Given as goal

abbrev pub invariant-loop-at : goal.invariant-loop-at
invariant-loop-at g l = l.at ≤ length l.buf

abbrev pub decreases-loop-at : goal.decreases-loop-at
decreases-loop-at g l = length l.initial.buf - l.at
