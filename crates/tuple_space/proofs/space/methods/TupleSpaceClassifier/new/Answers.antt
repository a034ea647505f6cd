use Rattle.std.proofs.Common.{vec_items}
use Rattle.classifier.specs.Kept.{standing_rules}
use Rattle.tuple_space.proofs.ChangeLaws.{tuples_none}
use Rattle.tuple_space.proofs.space.methods.TupleSpaceClassifier.new.Goals as goal

pub invariant_of-result : goal.invariant_of-result
invariant_of-result c =
    let t = tuples_none (standing_rules c.in_ok-rules.rules.store) (vec_items c.in_ok-masks.masks.arrived) c.in_ok-rules.ensures c.in_ok-masks.ensures in
    record { covered = t.masks; ranks = t.ranks }
