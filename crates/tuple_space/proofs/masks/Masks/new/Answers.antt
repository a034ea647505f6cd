use Rattle.std.proofs.Common.{◌≡◌, true, [], length, vec_items, sym, refl, ap, ◌∙◌, subst, arith}
use Rattle.tuple_space.specs.Tuples.{distinct}
use Rattle.tuple_space.specs.Visits.{ordered}
use Rattle.tuple_space.proofs.OrderLaws.{same_tuples_refl}
use Rattle.tuple_space.proofs.masks.Masks.new.Goals as goal

distinct_none : distinct [] ≡ true
unfolding distinct
distinct_none = refl

pub invariant_of-result : goal.invariant_of-result
unfolding ordered
invariant_of-result c =
    let none = c.in_ok-arrived.ensures.items in
    record {
      room = c.in_ok-arrived.ensures.capacity;
      seats = c.in_ok-visits.ensures.capacity;
      few = omega (arith, ap length none);
      once = subst (λ ts. distinct ts ≡ true) (sym none) distinct_none;
      sorted = same_tuples_refl (vec_items c.in_ok-visits.visits) (ordered [] (vec_items c.in_ok-arrived.arrived)) (c.in_ok-visits.ensures.items ∙ sym (ap (ordered []) none));
    }
