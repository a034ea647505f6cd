use Rattle.classifier.specs.Kept.{kept}
use Rattle.tuple_space.proofs.IndexLaws.{indexed_credited}
use Rattle.tuple_space.proofs.indexed.IndexedStore.credit.Goals as goal

pub invariant_of-self : goal.invariant_of-self
invariant_of-self c =
    let s = c.args.self.now in
    record { indexed = indexed_credited (kept s.store) (kept c.credit.new.self) s.index.buckets c.args.id c.args.n c.credit.ensures.kept s.indexed }
