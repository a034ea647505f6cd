use Rattle.std.proofs.Common.{◌≡◌, ℕ, ◌<◌, ◌≤◌, length, get_or}
use lib.Bits.{bit_or}
use Rattle.flow.proofs.rows.union_into.Given as goal

abbrev pub invariant-loop-i : goal.invariant-loop-i
invariant-loop-i l =
    (length l.into ≡ 36)
    × ((k : ℕ) → k < l.i → get_or l.into k 0 ≡ bit_or (get_or l.initial.into k 0) (get_or l.mask k 0))
    × ((k : ℕ) → l.i ≤ k → get_or l.into k 0 ≡ get_or l.initial.into k 0)
