use Rattle.std.proofs.Common.{◌≡◌, eqb, vec_items, rules}
use Rattle.std.specs.List.{position}
use Rattle.classifier.proofs.PlaceLaws.{place_from}
use Rattle.classifier.proofs.store.Store.place_of.Goals as goal

pub returns : goal.returns
returns c =
    let xs = vec_items c.args.self.now.rules in
    let e : c.place_of.result ≡ position (λ r. eqb r.id c.args.id) xs = search rules in
    place_from xs c.args.id c.place_of.result c.args.self.now.ok e
