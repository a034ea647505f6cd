use Rattle.std.proofs.Common.{◌≡◌, ℕ, ◌<◌, ◌≤◌, length, get_or}
use lib.Bits.{bit_and}
use Rattle.flow.proofs.rows.masked.Given as goal

abbrev pub invariant-loop-i : goal.invariant-loop-i
invariant-loop-i l =
    (length l.bits ≡ 36)
    × ((k : ℕ) → k < l.i → get_or l.bits k 0 ≡ bit_and (get_or l.key k 0) (get_or l.mask k 0))
    × ((k : ℕ) → l.i ≤ k → get_or l.bits k 0 ≡ get_or l.key k 0)
