use Rattle.std.proofs.Common.{vec_items}
use Rattle.classifier.specs.StandingLaws.{standing_none, by_id_none}
use Rattle.classifier.proofs.store.Store.new.Goals as goal

pub invariant_of-result : goal.invariant_of-result
invariant_of-result c =
    record { room = c.in_ok-rules.ensures.capacity; ok = standing_none (vec_items c.in_ok-rules.rules) c.in_ok-rules.ensures.items }

pub returns : goal.returns
returns c = by_id_none (vec_items c.in_ok-rules.rules) c.in_ok-rules.ensures.items
