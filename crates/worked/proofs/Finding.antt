-- The example of finding a rule computes.
use Rattle.std.proofs.Common.{refl}
use Rattle.flow.specs.Masks.{masked, union, covered, empty_mask}
use Rattle.classifier.specs.Rules.{matches, best, found}
use Rattle.classifier.specs.Stores.{ranked, by_rank, looked_at, linear_mask}
use Rattle.classifier.specs.Tables.{added}
use Rattle.tuple_space.specs.Tuples.{rank_of}
use Rattle.tuple_space.specs.Visits.{placed, ordered, visited, joined, tuple_mask}
use Rattle.worked.specs.Finding.{FindingExamples}

pub finding_examples : FindingExamples
unfolding masked union covered empty_mask matches best found ranked by_rank looked_at linear_mask added rank_of placed ordered visited joined tuple_mask
finding_examples = record { finds = refl; mask = refl; tuples = refl }
