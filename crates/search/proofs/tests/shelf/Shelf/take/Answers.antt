use Rattle.std.proofs.Common.{◌≡◌, length, refl, arith, rules}
use Rattle.search.specs.Buckets.{home}
use Rattle.search.specs.Sums.{byte_sum}
use Rattle.search.proofs.IndexLaws.{indexed_gone}
use Rattle.search.proofs.tests.shelf.Shelf.take.Goals as goal

pub invariant_of-self : goal.invariant_of-self
invariant_of-self c =
    let s = c.args.self.now in
    let long : length s.slots ≡ 4 = search rules in
    record { kept = indexed_gone (λ e. e.live) (home byte_sum (λ e. e.mask) (λ e. e.value)) s.slots s.index.buckets c.gone.new.self.buckets c.args.slot _ _ (omega (arith, long)) s.kept (omega arith) refl c.gone.ensures }
