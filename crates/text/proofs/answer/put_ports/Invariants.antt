use Rattle.std.proofs.Common.{◌+◌, ◌*◌, ◌-◌, ◌≤◌, vec_items, vec_len, vec_capacity}
use Rattle.text.specs.Texts.{Appended}
use Rattle.text.specs.Answers.{ports_below}
use Rattle.text.proofs.answer.put_ports.Given as goal

abbrev pub invariant-loop-below : goal.invariant-loop-below
invariant-loop-below l =
    (l.below ≤ 64)
    × Appended (vec_items l.initial.out) (vec_items l.out) (ports_below l.set l.below)
    × (vec_len l.out ≤ vec_len l.initial.out + 4 * l.below)
    × (vec_capacity l.initial.out ≤ vec_capacity l.out)

abbrev pub decreases-loop-below : goal.decreases-loop-below
decreases-loop-below l = 64 - l.below
