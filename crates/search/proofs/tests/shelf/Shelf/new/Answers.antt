use Rattle.std.proofs.Common.{refl}
use Rattle.search.specs.Buckets.{home}
use Rattle.search.specs.Sums.{byte_sum}
use Rattle.search.proofs.IndexLaws.{indexed_free}
use Rattle.search.proofs.tests.shelf.Shelf.new.Goals as goal

pub invariant_of-result : goal.invariant_of-result
invariant_of-result c =
    record { kept = indexed_free (λ e. e.live) (home byte_sum (λ e. e.mask) (λ e. e.value)) 4 _ c.new.result.buckets refl c.new.ensures }
