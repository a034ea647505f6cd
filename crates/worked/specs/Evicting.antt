-- Examples of what an eviction policy picks.
use Rattle.std.specs.Prelude.{◌≡◌, [], Some}
use Rattle.eviction.specs.Kinds.{State, of_fifo, of_clock, put_state, gone_state, touch_state, picked_slot, picked_state}
use Rattle.eviction.specs.Clocks.{new_clock}

-- FIFO: slots 5 and 2 are put, and slot 5 is hit
abbrev pub fifo_example : State
fifo_example = touch_state (put_state (put_state (of_fifo []) 5) 2) 5

-- CLOCK: slots 0, 1 and 2 are put
abbrev pub clock_example : State
clock_example = put_state (put_state (put_state (of_clock new_clock) 0) 1) 2

-- and after the pick slot 0 is gone, and slot 1 is hit
abbrev pub clock_later : State
clock_later = touch_state (gone_state (picked_state clock_example) 0) 1

pub record EvictingExamples : Type 0 where
  -- a hit does not help under FIFO
  pub fifo : picked_slot fifo_example ≡ Some 5
  -- all three have a mark: the hand clears them and comes round to slot 0
  pub clock_first : picked_slot clock_example ≡ Some 0
  -- slot 1 has a mark again, and slot 2 has none
  pub clock_second : picked_slot clock_later ≡ Some 2
