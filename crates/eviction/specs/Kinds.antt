-- The state of a policy that is chosen at run time.
use Rattle.std.specs.Prelude.{ℕ, Bool, List, [], vec_items, Option}
use Rattle.eviction.specs.declared.any_policy.AnyPolicy.{AnyPolicy}
use Rattle.eviction.specs.declared.any_policy.AnyPolicy.TheVariants.{Fifo, Clock}
use Rattle.eviction.specs.declared.any_policy.PolicyKind.{PolicyKind}
use Rattle.eviction.specs.declared.any_policy.PolicyKind.TheVariants as kind
use Rattle.eviction.specs.Orders.{listed, left_out, put_last, oldest}
use Rattle.eviction.specs.Bitmaps.{in_set}
use Rattle.eviction.specs.Clocks.{Face, new_clock, clock_put, clock_gone, clock_touch, clock_pick}
use Rattle.eviction.specs.Faces.{face}

-- the order of a FIFO policy, or the face of a CLOCK policy
pub data State : Type 0 where
  of_fifo : List ℕ → State
  of_clock : Face → State

-- the filled slots, by case
abbrev pub any_filled : AnyPolicy → ℕ → Bool
any_filled (Fifo f) = listed (vec_items f.order)
any_filled (Clock c) = in_set c.filled.bits

-- the state, by case
abbrev pub state : AnyPolicy → State
state (Fifo f) = of_fifo (vec_items f.order)
state (Clock c) = of_clock (face c)

-- a new policy of the kind
abbrev pub new_state : PolicyKind → State
new_state kind.Fifo = of_fifo []
new_state kind.Clock = of_clock new_clock

-- the state after a put
abbrev pub put_state : State → ℕ → State
put_state (of_fifo xs) s = of_fifo (put_last xs s)
put_state (of_clock c) s = of_clock (clock_put c s)

-- the state when the slot is gone
abbrev pub gone_state : State → ℕ → State
gone_state (of_fifo xs) s = of_fifo (left_out xs s)
gone_state (of_clock c) s = of_clock (clock_gone c s)

-- the state after a hit
abbrev pub touch_state : State → ℕ → State
touch_state (of_fifo xs) s = of_fifo xs
touch_state (of_clock c) s = of_clock (clock_touch c s)

-- the slot that is picked
abbrev pub picked_slot : State → Option ℕ
picked_slot (of_fifo xs) = oldest xs
picked_slot (of_clock c) = (clock_pick c).picked

-- the state after a pick
abbrev pub picked_state : State → State
picked_state (of_fifo xs) = of_fifo xs
picked_state (of_clock c) = of_clock (clock_pick c).clock
