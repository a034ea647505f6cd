use Rattle.std.proofs.Common.{None, refl, ap, ◌∙◌, rules}
use Rattle.std.specs.Option.{option_map}
use Rattle.flow.specs.Masks.{union}
use Rattle.classifier.specs.Kept.{standing_rules}
use Rattle.tuple_space.specs.Visits.{searched, visited, joined}
use Rattle.tuple_space.proofs.SearchLaws.{outcome_next, outcome_stop, outcome_end, visited_next, visited_stop, visited_end, next_priority}
use Rattle.tuple_space.proofs.visit.visit.Goals as goal

pub loop-tuple-init : goal.loop-tuple-init
loop-tuple-init c =
    (search rules, refl, ap (λ m. union m (joined (visited (standing_rules c.args.store.now.store) c.args.key.now None c.args.tuples.now))) c.empty_mask-mask.ensures)

pub loop-tuple-preserved : goal.loop-tuple-preserved
loop-tuple-preserved c =
    let rs = standing_rules c.args.store.now.store in
    let k = c.args.key.now in
    let ts = c.args.tuples.now in
    let i = c.loop-tuple.tuple-index in
    let e = c.visit_tuple-top.ensures.found in (
      c.type_inv.mask,
      outcome_next (λ f. f.priority) (searched rs k) ts i c.loop-tuple.top c.visit_tuple-top.result _ _ c.loop-tuple-test.true c.if-not-may_beat.ensures e c.loop-tuple.invariant.1,
      visited_next rs k ts i (option_map (λ f. f.priority) c.loop-tuple.top) (option_map (λ f. f.priority) c.visit_tuple-top.result) c.loop-tuple.mask _ _ _ c.loop-tuple-test.true c.if-not-may_beat.ensures (next_priority rs k _ c.loop-tuple.top c.visit_tuple-top.result e) c.visit_tuple-top.ensures.added c.loop-tuple.invariant.2,
    )

pub returns-then-not-may_beat : goal.returns-then-not-may_beat
returns-then-not-may_beat c =
    let rs = standing_rules c.args.store.now.store in
    let k = c.args.key.now in
    let ts = c.args.tuples.now in
    let i = c.loop-tuple.tuple-index in
    record {
      rule = (search rules) ∙ ap (option_map (λ f. f.rule)) (outcome_stop (λ f. f.priority) (searched rs k) ts i c.loop-tuple.top _ _ c.loop-tuple-test.true c.if-not-may_beat.ensures c.loop-tuple.invariant.1);
      mask = visited_stop rs k ts i (option_map (λ f. f.priority) c.loop-tuple.top) c.loop-tuple.mask _ _ c.loop-tuple-test.true c.if-not-may_beat.ensures c.loop-tuple.invariant.0 c.loop-tuple.invariant.2;
    }

pub returns : goal.returns
returns c =
    let rs = standing_rules c.args.store.now.store in
    let k = c.args.key.now in
    let ts = c.args.tuples.now in
    let i = c.loop-tuple.tuple-index in
    record {
      rule = (search rules) ∙ ap (option_map (λ f. f.rule)) (outcome_end (λ f. f.priority) (searched rs k) ts i c.loop-tuple.top _ c.loop-tuple-test.false c.loop-tuple.invariant.1);
      mask = visited_end rs k ts i (option_map (λ f. f.priority) c.loop-tuple.top) c.loop-tuple.mask _ c.loop-tuple-test.false c.loop-tuple.invariant.0 c.loop-tuple.invariant.2;
    }
