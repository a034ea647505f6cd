use Rattle.std.proofs.Common.{◌-◌, ◌≤◌}
use Rattle.std.specs.Fmt.{HasWritten, IsPlainFormatter}
use Rattle.text.specs.Answers.{ports_below}
use Rattle.text.proofs.display.PortsDisplay.fmt.Given as goal

abbrev pub invariant-loop-below : goal.invariant-loop-below
invariant-loop-below g l =
    (l.below ≤ 64)
    × (IsPlainFormatter l.initial.f → HasWritten g.W.Write.write_str_gives l.initial.f (ports_below l.set l.below) l.f)

abbrev pub decreases-loop-below : goal.decreases-loop-below
decreases-loop-below g l = 64 - l.below
