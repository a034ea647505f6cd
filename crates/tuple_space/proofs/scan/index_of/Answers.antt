use Rattle.std.proofs.Common.{true, subst}
use Rattle.std.proofs.lemmas.List.{take_all}
use Rattle.search.proofs.IndexLaws.{indexed_nil}
use Rattle.tuple_space.specs.Indexes.{rule_home, IndexedRules}
use Rattle.tuple_space.proofs.IndexLaws.{indexed_next}
use Rattle.tuple_space.proofs.scan.index_of.Goals as goal

pub loop-i-init : goal.loop-i-init
loop-i-init c = indexed_nil (λ _. true) rule_home c.new-index.result.buckets c.new-index.ensures

pub loop-i-preserved : goal.loop-i-preserved
loop-i-preserved c =
    indexed_next c.args.rules.now c.loop-i.index.buckets c.put.new.self.buckets c.loop-i.i _ c.loop-i-test.true c.requires c.loop-i.invariant c.put.ensures

pub returns : goal.returns
returns c = subst (λ rs. IndexedRules rs c.loop-i.index.buckets) (take_all c.loop-i.i c.args.rules.now c.loop-i-test.false) c.loop-i.invariant
