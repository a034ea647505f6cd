use Rattle.std.proofs.Common.{◌≡◌, length, vec_items, refl, rules}
use Rattle.std.specs.Option.{unwrap_or}
use Rattle.std.specs.List.{position}
use Rattle.classifier.specs.Stores.{before}
use Rattle.classifier.proofs.PlaceLaws.{grown_at}
use Rattle.classifier.proofs.store.Store.rank_place.Goals as goal

pub returns : goal.returns
returns c =
    let xs = vec_items c.args.self.now.rules in
    let r : c.unwrap_or.result ≡ unwrap_or (position (before c.args.new.now) xs) (length xs) = search rules in
    let g = grown_at xs c.args.new.now (position (before c.args.new.now) xs) c.args.self.now.ok c.requires.sound c.requires.admitted refl in
    record { within = rw r g.within; grown = rw r g.rules; stands = rw r g.stands_still }
