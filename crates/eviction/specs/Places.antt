-- What the places of an order say: ready facts for what a FIFO policy does there.
use Rattle.std.specs.Prelude.{◌≡◌, ℕ, ◌<◌, true, false, List, [], ◌∷◌, ◌++◌, length, Option, MatchOption}
use Rattle.std.specs.List.{remove}
use Rattle.eviction.specs.Sets.{with_slot, without_slot}
use Rattle.eviction.specs.Orders.{listed, left_out, put_last, oldest, orderly}

-- the slot stands at place p
pub record Placed (xs : List ℕ) (s p : ℕ) : Type 0 where
  pub within : p < length xs
  pub taken : remove xs p ≡ left_out xs s

-- ys is the order without the slot
pub record Left (xs ys : List ℕ) (s : ℕ) : Type 0 where
  pub is : ys ≡ left_out xs s
  pub ok : orderly ys ≡ true
  pub set : (i : ℕ) → listed ys i ≡ without_slot (listed xs) s i
  -- the slot may come back as the last
  pub room : s < 128 → length ys < 128
  pub last : s < 128 → ys ++ s ∷ [] ≡ put_last xs s
  pub last_ok : s < 128 → orderly (ys ++ s ∷ []) ≡ true
  pub last_set : s < 128 → (i : ℕ) → listed (ys ++ s ∷ []) i ≡ with_slot (listed xs) s i

-- the first of the order, which is a filled slot
pub record FirstOf (xs : List ℕ) (o : Option ℕ) : Type 0 where
  pub is : o ≡ oldest xs
  pub named : MatchOption o ((i : ℕ) → listed xs i ≡ false) (λ s. listed xs s ≡ true)
