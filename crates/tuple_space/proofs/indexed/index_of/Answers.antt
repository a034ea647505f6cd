use Rattle.std.proofs.Common.{subst}
use Rattle.tuple_space.specs.Indexes.{IndexedRules}
use Rattle.tuple_space.proofs.indexed.index_of.Goals as goal

pub returns : goal.returns
returns c = subst (λ rs. IndexedRules rs c.index_of.result.buckets) c.rules.ensures.is c.index_of.ensures
