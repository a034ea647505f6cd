-- The steps of a search through the slots, from the first to the last.
use Rattle.std.specs.Prelude.{◌≡◌, ℕ, ◌≤◌, Bool, false, cond, ◌&&◌, Some, None, Option, nat_lt}
use Rattle.search.specs.declared.tuple.Hit.{Hit}
use Rattle.search.specs.Buckets.{bit}

-- of the best so far and a later element, the one of higher rank; of the same rank, the later
abbrev pub later : {X : Type 0} → (X → ℕ) → Option X → X → Option X
later rank None x = Some x
later rank (Some a) x = cond (nat_lt (rank x) (rank a)) (Some a) (Some x)

-- the best so far, after an element that may fit
abbrev pub stepped : {X : Type 0} → (X → ℕ) → (X → Bool) → Option X → X → Option X
stepped rank fits t x = cond (fits x) (later rank t x) t

-- an element fits, and the bit of its place is set
abbrev pub marking : {E : Type 0} → ℕ → (E → Bool) → (ℕ × E) → Bool
marking n fits x = bit n x.0 && fits x.1

-- no bit of the number is set from place len on
abbrev pub Below : ℕ → ℕ → Type 0
Below n len = (i : ℕ) → len ≤ i → bit n i ≡ false

-- a slot that was found, as its place and its element
abbrev pub seen : {E : Type 0} → Hit E → ℕ × E
seen h = (h.place, h.element.now)
