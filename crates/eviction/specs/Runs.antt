-- The hand's way to the end of the round.
use Rattle.std.specs.Prelude.{◌≡◌, ℕ, ◌+◌, ◌%◌}
use Rattle.eviction.specs.Sets.{without_between, Covered, FirstApart}
use Rattle.eviction.specs.Clocks.{Face}

-- each filled slot from the hand on has a mark: the marks are cleared, and the hand is at slot 0
pub record Ended (c d : Face) : Type 0 where
  pub marked : Covered c.filled c.marks c.hand 128
  pub clock : d ≡ record { hand = 0; filled = c.filled; marks = without_between c.marks c.hand 128 }

-- s is the first filled slot without a mark, from the hand on: the marks before it are cleared, and the hand is behind it
pub record Stopped (c d : Face) (s : ℕ) : Type 0 where
  pub unmarked : FirstApart c.filled c.marks c.hand s
  pub clock : d ≡ record { hand = (s + 1) % 128; filled = c.filled; marks = without_between c.marks c.hand s }
