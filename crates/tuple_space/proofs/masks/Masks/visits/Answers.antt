use Rattle.std.proofs.Common.{[], vec_items, ◌∙◌}
use Rattle.tuple_space.specs.Visits.{ordered}
use Rattle.tuple_space.proofs.OrderLaws.{same_tuples_means}
use Rattle.tuple_space.proofs.masks.Masks.visits.Goals as goal

pub returns : goal.returns
returns c =
    let s = c.args.self.now in
    c.deref.ensures.value ∙ same_tuples_means (vec_items s.visits) (ordered [] (vec_items s.arrived)) s.sorted
