use Rattle.std.proofs.Common.{length, sym, ap, ◌∙◌, subst}
use Rattle.std.specs.Option.{option_map}
use Rattle.flow.specs.Masks.{masked}
use Rattle.search.specs.Best.{best, numbered, covering, fitting}
use Rattle.search.specs.Searches.{marking, Below}
use Rattle.search.proofs.BestLaws.{best_value}
use Rattle.search.proofs.SearchLaws.{best_indexed, marked_within, seen_element}
use Rattle.search.proofs.tuple.Tuple.hit.Goals as goal

pub best_of-requires : goal.best_of-requires
best_of-requires g c =
    let m = g.E.Element in
    let xs = c.args.self.now.slots.now in
    let bs = c.args.self.now.index.now.buckets in
    let hash = g.H.KeyHash.hash in
    subst (λ z. Below z (length xs)) (sym c.slots_of.ensures)
    (marked_within hash m.may m.masks m.values c.args.mask.now c.args.key.now xs bs c.requires (hash (masked c.args.mask.now c.args.key.now)))

pub returns : goal.returns
returns g c =
    let m = g.E.Element in
    let xs = c.args.self.now.slots.now in
    let bs = c.args.self.now.index.now.buckets in
    let p =
    c.best_of.ensures
    ∙ ap (λ z. best (λ x. m.level x.1) (marking z (covering m.masks m.values c.args.mask.now c.args.key.now)) (numbered 0 xs)) c.slots_of.ensures
    ∙ best_indexed g.H.KeyHash.hash m.may m.masks m.values c.args.mask.now c.args.key.now xs bs c.requires m.level in
    record {
      place = p;
      element = seen_element c.best_of.result ∙ ap (option_map (λ x. x.1)) p
          ∙ best_value m.level (fitting m.may m.masks m.values c.args.mask.now c.args.key.now) 0 xs;
    }
