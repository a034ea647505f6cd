-- The order of a FIFO policy: the filled slots, those with the oldest latest put first.
use Rattle.std.specs.Prelude.{ℕ, Bool, true, false, cond, not, ◌&&◌, ◌||◌, List, [], ◌∷◌, ◌++◌, Some, None, Option, ◌==◌, nat_lt}

-- the slot is in the order
unfoldable pub listed : List ℕ → ℕ → Bool
listed [] i = false
listed (x ∷ xs) i = i == x || listed xs i

-- the order without the slot
unfoldable pub left_out : List ℕ → ℕ → List ℕ
left_out [] s = []
left_out (x ∷ xs) s = cond (x == s) (left_out xs s) (x ∷ left_out xs s)

-- the order with the slot as its last; a slot above 127 does not come in
abbrev pub put_last : List ℕ → ℕ → List ℕ
put_last xs s = cond (nat_lt s 128) (left_out xs s ++ s ∷ []) xs

-- the first of the order
unfoldable pub oldest : List ℕ → Option ℕ
oldest [] = None
oldest (x ∷ xs) = Some x

-- the slots of the order are below 128, and each stands in it once
unfoldable pub orderly : List ℕ → Bool
orderly [] = true
orderly (x ∷ xs) = nat_lt x 128 && (not (listed xs x) && orderly xs)
