-- The examples of picks: FIFO computes, and CLOCK goes by the ways of the hand to the end of the round.
use Rattle.std.proofs.Common.{◌≡◌, ℕ, ◌<◌, Bool, true, false, not, ◌&&◌, ltb, leb, Some, sym, refl, ap, ◌∙◌, arith}
use Rattle.std.proofs.lemmas.Bool.Decides.{nat_tests}
use Rattle.eviction.specs.Sets.{without_between}
use Rattle.eviction.specs.Orders.{left_out, oldest}
use Rattle.eviction.specs.Clocks.{Face, new_clock, clock_put, clock_gone, clock_touch, clock_pick}
use Rattle.worked.specs.Evicting.{EvictingExamples}
use Rattle.eviction.proofs.SweepLaws.{Picked, ends_from, stops_from, ends_stops, picked_from}

-- slots 0, 1 and 2 are filled and marked
three : Face
three = clock_put (clock_put (clock_put new_clock 0) 1) 2

three_below : (i : ℕ) → three.filled i ≡ true → i < 128
unfolding three
three_below i h = grind (arith, nat_tests)

-- their marks are cleared
clear : Face
unfolding three
clear = record { hand = 0; filled = three.filled; marks = without_between three.marks 0 128 }

-- slot 0 is picked
after : Face
unfolding clear
after = record { hand = 1; filled = clear.filled; marks = without_between clear.marks 0 0 }

first_pick : Picked three after (Some 0)
unfolding three clear after
first_pick =
    picked_from three after 0 (omega arith) three_below
    (ends_stops three clear after 0
    (ends_from three clear (omega arith) (λ i h. h) (record { marked = λ i a b h. h; clock = refl }))
    (stops_from clear after 0 (omega arith) inside
    (record { unmarked = record { from_on = omega arith; a_slot = omega arith; inside = refl; outside = refl; first = λ i a b h. absurd (omega arith) }; clock = refl })))
  where
    left_part : (t u : Bool) → (t && u) ≡ true → t ≡ true
    left_part true u e = refl
    left_part false u e = e

    inside : (i : ℕ) → clear.marks i ≡ true → clear.filled i ≡ true
    inside i h = left_part (three.marks i) (not (leb 0 i && ltb i 128)) h

-- slot 0 is gone, and slot 1 is hit
later : Face
unfolding after
later = clock_touch (clock_gone after 0) 1

later_below : (i : ℕ) → later.filled i ≡ true → i < 128
unfolding three clear after later
later_below i h = grind (arith, nat_tests)

later_inside : (i : ℕ) → later.marks i ≡ true → later.filled i ≡ true
unfolding three clear after later
later_inside i h = grind (arith, nat_tests)

-- slot 2 is picked
last : Face
unfolding later
last = record { hand = 3; filled = later.filled; marks = without_between later.marks 1 2 }

second_pick : Picked later last (Some 2)
unfolding three clear after later last
second_pick =
    picked_from later last 2 (omega arith) later_below
    (stops_from later last 2 (omega arith) later_inside
    (record { unmarked = record { from_on = omega arith; a_slot = omega arith; inside = refl; outside = refl; first = λ i a b h. grind (arith, nat_tests) }; clock = refl }))

pub evicting_examples : EvictingExamples
unfolding left_out oldest three later
evicting_examples =
    record {
      fifo = refl;
      clock_first = sym first_pick.slot;
      clock_second = ap (λ c. (clock_pick (clock_touch (clock_gone c 0) 1)).picked) (sym first_pick.clock) ∙ sym second_pick.slot;
    }
