use Rattle.std.proofs.Common.{◌≡◌, vec_items, sym, ◌∙◌, subst, Some, None, arith, rules}
use Rattle.std.specs.List.{position}
use Rattle.std.specs.Str.{bytes_eq}
use Rattle.std.proofs.lemmas.Bool.{both_ways}
use Rattle.flow.proofs.Firsts.{none_since}
use Rattle.tuple_space.proofs.ScanLaws.{place_from}
use Rattle.tuple_space.specs.Changes.{Went}
use Rattle.tuple_space.proofs.ChangeLaws.{went_at, went_none}
use Rattle.tuple_space.proofs.masks.went.Goals as goal

pub returns-in-Some-rank : goal.returns-in-Some-rank
returns-in-Some-rank c =
    let ts = vec_items c.args.tuples.now in
    let e : position (λ t. bytes_eq t.mask c.args.mask.now) ts ≡ Some c.in-Some.place = search rules in
    let at = place_from ts c.args.mask.now (Some c.in-Some.place) e in
    record {
      is = subst (Went ts _ c.args.mask.now) (sym c.in-Some-rank.is) (went_at ts c.in-Some.place c.in-Some-rank.rank c.args.mask.now c.index_mut.result.now at.0 c.requires.once at.1 c.index_mut.ensures.value);
      room = omega arith;
    }

pub returns-in-None : goal.returns-in-None
returns-in-None c =
    let ts = vec_items c.args.tuples.now in
    let e : position (λ t. bytes_eq t.mask c.args.mask.now) ts ≡ Some c.in-Some.place = search rules in
    let at = place_from ts c.args.mask.now (Some c.in-Some.place) e in
    record {
      is = subst (Went ts _ c.args.mask.now) (sym c.in-None.is)
          (subst (λ us. Went ts us c.args.mask.now None) (sym c.remove.ensures.items) (went_none ts c.in-Some.place c.remove.result c.args.mask.now at.0 c.requires.once (at.1 c.remove.result)));
      room = omega (arith, c.remove.ensures.capacity);
    }

pub returns-in_default-clause-is : goal.returns-in_default-clause-is
returns-in_default-clause-is c =
    let ts = vec_items c.args.tuples.now in
    let e : c.place_of.result ≡ position (λ t. bytes_eq t.mask c.args.mask.now) ts = search rules in
    absurd (both_ways _ (place_from ts c.args.mask.now None (sym e ∙ none_since c.place_of.result c.in_default.not-Some)) c.requires.there)
