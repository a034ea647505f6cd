-- Sets of slots, as a test of each number.
use Rattle.std.specs.Prelude.{◌≡◌, ℕ, ◌<◌, ◌≤◌, Bool, true, false, not, ◌&&◌, ◌||◌, ◌==◌, nat_le, nat_lt}

-- no slot
abbrev pub no_slot : ℕ → Bool
no_slot i = false

-- the set with one slot more; there are the slots 0 to 127
abbrev pub with_slot : (ℕ → Bool) → ℕ → ℕ → Bool
with_slot set s i = set i || (i == s && nat_lt s 128)

-- the set without a slot
abbrev pub without_slot : (ℕ → Bool) → ℕ → ℕ → Bool
without_slot set s i = set i && not (i == s)

-- the set without the slots from one up to another
abbrev pub without_between : (ℕ → Bool) → ℕ → ℕ → ℕ → Bool
without_between set from to i = set i && not (nat_le from i && nat_lt i to)

-- the slots of the set from one up to another are in the other set
abbrev pub Covered : (ℕ → Bool) → (ℕ → Bool) → ℕ → ℕ → Type 0
Covered set other from to = (i : ℕ) → from ≤ i → i < to → set i ≡ true → other i ≡ true

-- s is the first slot of the set, from one on, that is not in the other set
pub record FirstApart (set other : ℕ → Bool) (from s : ℕ) : Type 0 where
  pub from_on : from ≤ s
  pub a_slot : s < 128
  pub inside : set s ≡ true
  pub outside : other s ≡ false
  pub first : Covered set other from s
