use Rattle.std.proofs.Common.{◌≡◌, vec_items, sym, ap, ◌∙◌, subst, Some, None, arith, rules}
use Rattle.std.proofs.lemmas.List.{get_or_default}
use Rattle.std.proofs.lemmas.Bool.{cond-true}
use Rattle.std.specs.List.{position}
use Rattle.std.specs.Str.{bytes_eq}
use Rattle.tuple_space.proofs.ScanLaws.{place_from, max_larger}
use Rattle.tuple_space.specs.declared.ranked_mask.RankedMask.{RankedMask}
use Rattle.tuple_space.specs.Changes.{Came}
use Rattle.tuple_space.specs.Tuples.{larger}
use Rattle.tuple_space.proofs.ChangeLaws.{came_at, came_new}
use Rattle.tuple_space.proofs.masks.came.Goals as goal

pub returns-in-Some : goal.returns-in-Some
returns-in-Some c =
    let ts = vec_items c.args.tuples.now in
    let e : position (λ t. bytes_eq t.mask c.args.mask.now) ts ≡ Some c.in-Some.place = search rules in
    let at = place_from ts c.args.mask.now (Some c.in-Some.place) e in
    record {
      is = came_at ts c.in-Some.place c.args.priority c.max-rank.result c.args.mask.now c.index_mut.result.now at.0 c.requires.once at.1
          c.index_mut.ensures.value
          (c.max-rank.ensures ∙ max_larger c.index.result.now.rank c.args.priority ∙ ap (λ (t : RankedMask). larger c.args.priority t.rank) (c.index.ensures ∙ get_or_default ts c.in-Some.place c.index.result.now c.index_mut.result.now at.0 ∙ sym c.index_mut.ensures.value));
      room = omega arith;
    }

pub returns-in-None : goal.returns-in-None
returns-in-None c =
    let ts = vec_items c.args.tuples.now in
    let e : position (λ t. bytes_eq t.mask c.args.mask.now) ts ≡ None = search rules in
    record {
      is = subst (λ us. Came ts us c.args.mask.now c.args.priority) (sym (c.push.ensures.items ∙ cond-true _ _ _ (c.push.ensures.succeeds c.requires.room)))
          (came_new ts c.args.priority c.args.mask.now c.requires.once (place_from ts c.args.mask.now None e));
      room = c.push.ensures.capacity;
    }
