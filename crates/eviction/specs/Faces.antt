-- The face of a CLOCK policy.
use Rattle.eviction.specs.declared.clock.Clock.{Clock}
use Rattle.eviction.specs.Bitmaps.{in_set}
use Rattle.eviction.specs.Clocks.{Face}

-- its hand and its two sets
abbrev pub face : Clock → Face
face c = record { hand = c.hand; filled = in_set c.filled.bits; marks = in_set c.marks.bits }
