-- The hand of a CLOCK policy, and what it picks.
use Rattle.std.specs.Prelude.{ℕ, zero, suc, ◌+◌, ◌%◌, Bool, cond, Some, None, Option}
use Rattle.eviction.specs.Sets.{no_slot, with_slot, without_slot}

-- where the hand stands, the filled slots, and the slots with a mark
pub record Face : Type 0 where
  pub hand : ℕ
  pub filled : ℕ → Bool
  pub marks : ℕ → Bool

-- a new clock
abbrev pub new_clock : Face
new_clock = record { hand = 0; filled = no_slot; marks = no_slot }

-- a put fills the slot and marks it
abbrev pub clock_put : Face → ℕ → Face
clock_put c s = record { hand = c.hand; filled = with_slot c.filled s; marks = with_slot c.marks s }

-- the slot goes with its mark
abbrev pub clock_gone : Face → ℕ → Face
clock_gone c s = record { hand = c.hand; filled = without_slot c.filled s; marks = without_slot c.marks s }

-- a hit marks a filled slot
abbrev pub clock_touch : Face → ℕ → Face
clock_touch c s = record { hand = c.hand; filled = c.filled; marks = cond (c.filled s) (with_slot c.marks s) c.marks }

-- the hand stands at the next slot; after slot 127 comes slot 0
abbrev pub passed : Face → Face
passed c = record { hand = (c.hand + 1) % 128; filled = c.filled; marks = c.marks }

-- the mark at the hand is cleared, and the hand stands at the next slot
abbrev pub cleared : Face → Face
cleared c = record { hand = (c.hand + 1) % 128; filled = c.filled; marks = without_slot c.marks c.hand }

-- how a sweep of the hand ends: the slot that it picked, and the clock after it
pub record Swept : Type 0 where
  pub picked : Option ℕ
  pub clock : Face

-- the hand goes over at most n slots: it passes unfilled ones, clears marks, and picks the first filled slot without a mark
unfoldable pub sweep : ℕ → Face → Swept
sweep zero c = record { picked = None; clock = c }
sweep (suc n) c =
    cond (c.filled c.hand)
    (cond (c.marks c.hand) (sweep n (cleared c)) (record { picked = Some c.hand; clock = passed c }))
    (sweep n (passed c))

-- in two rounds the hand finds a slot, if one is filled
unfoldable pub clock_pick : Face → Swept
clock_pick c = sweep 256 c
