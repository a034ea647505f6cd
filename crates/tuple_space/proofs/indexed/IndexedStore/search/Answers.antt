use Rattle.std.proofs.Common.{sym, ap, ◌∙◌, subst}
use Rattle.std.specs.Option.{option_map}
use Rattle.classifier.specs.Found.{found_of}
use Rattle.classifier.specs.Stores.{by_id}
use Rattle.classifier.specs.StandingLaws.{stored_from_test}
use Rattle.tuple_space.specs.Indexes.{IndexedRules}
use Rattle.tuple_space.specs.Visits.{searched}
use Rattle.tuple_space.proofs.SearchLaws.{search_finds}
use Rattle.tuple_space.proofs.indexed.IndexedStore.search.Goals as goal

pub find-requires : goal.find-requires
find-requires c = subst (λ rs. IndexedRules rs c.args.self.now.index.buckets) (sym c.rules.ensures.is) c.args.self.now.indexed

pub returns : goal.returns
returns c =
    let xs = c.rules.result.now in
    let m = c.args.mask.now in
    let k = c.args.key.now in
    c.find.ensures ∙ ap (option_map found_of) (search_finds m k xs (stored_from_test xs c.rules.ensures.standing).untied) ∙ ap (λ ys. searched (by_id ys) k m) c.rules.ensures.is
