use Rattle.std.proofs.Common.{[], vec_items, ap, ◌∙◌, arith}
use Rattle.tuple_space.specs.Visits.{ordered}
use Rattle.tuple_space.proofs.OrderLaws.{same_tuples_refl}
use Rattle.tuple_space.proofs.masks.Masks.came.Goals as goal

pub invariant_of-self : goal.invariant_of-self
invariant_of-self c =
    let s = c.args.self.now in
    record {
      room = omega (arith, s.room, c.came.ensures.room);
      seats = c.order.ensures.room;
      few = omega (arith, c.came.ensures.is.few, s.few);
      once = c.came.ensures.is.once;
      sorted = same_tuples_refl (vec_items c.order.new.visits) (ordered [] (vec_items c.came.new.tuples)) (c.order.ensures.ordered ∙ ap (ordered []) c.deref.ensures.value);
    }
