use Rattle.std.proofs.Common.{◌≡◌, ◌<◌, ltb, [], length, get_or, is_ok, vec_items, vec_len, vec_capacity, sym, refl, ap, ◌∙◌, arith, rules}
use Rattle.std.specs.List.{insert, position}
use Rattle.std.specs.Option.{unwrap_or}
use Rattle.std.proofs.lemmas.Bool.{cond-true}
use Rattle.tuple_space.specs.declared.ranked_mask.RankedMask.{RankedMask}
use Rattle.tuple_space.specs.Visits.{ordered}
use Rattle.tuple_space.proofs.ScanLaws.{inserted_placed, ordered_next, ordered_end}
use Rattle.tuple_space.proofs.masks.order.Goals as goal

abbrev no_tuple : RankedMask
no_tuple = record { mask = []; rank = 0 }

pub loop-tuple-init : goal.loop-tuple-init
loop-tuple-init c =
    record {
      placed = ap (λ vs. ordered vs c.args.arrived.now) c.clear.ensures.items;
      many = c.clear.ensures.len;
      room = omega (arith, c.clear.ensures.capacity, c.requires.room);
    }

pub loop-tuple-preserved : goal.loop-tuple-preserved
loop-tuple-preserved c =
    let ts = c.args.arrived.now in
    let vs = vec_items c.loop-tuple.visits in
    let t = get_or ts c.loop-tuple.tuple-index no_tuple in
    let e : c.lower_place.result ≡ position (λ u. ltb u.rank t.rank) vs = search rules in
    let p : c.unwrap_or-place.result ≡ unwrap_or c.lower_place.result (length vs) = search rules in
    let room : vec_len c.loop-tuple.visits < vec_capacity c.loop-tuple.visits = omega (arith, c.loop-tuple.invariant.many, c.loop-tuple.invariant.room, c.requires.few, c.loop-tuple-test.true) in
    let done = c.insert.ensures.succeeds room in
    record {
      placed = ordered_next vs (vec_items c.insert.new.self) ts c.loop-tuple.tuple-index t no_tuple _ c.loop-tuple-test.true refl
          (c.insert.ensures.items ∙ cond-true (is_ok c.insert.result) (insert vs c.unwrap_or-place.result t) vs done ∙ ap (λ i. insert vs i t) p ∙ inserted_placed vs t c.lower_place.result (sym e))
          c.loop-tuple.invariant.placed;
      many = c.insert.ensures.len ∙ cond-true _ _ _ done ∙ omega (arith, c.loop-tuple.invariant.many);
      room = omega (arith, c.insert.ensures.capacity, c.loop-tuple.invariant.room);
    }

pub returns-clause-ordered : goal.returns-clause-ordered
returns-clause-ordered c = ordered_end (vec_items c.loop-tuple.visits) c.args.arrived.now c.loop-tuple.tuple-index _ c.loop-tuple-test.false c.loop-tuple.invariant.placed

pub returns-clause-room : goal.returns-clause-room
returns-clause-room c = c.loop-tuple.invariant.room
