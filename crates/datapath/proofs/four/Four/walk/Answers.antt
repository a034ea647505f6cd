use Rattle.std.proofs.Common.{◌≡◌, suc, ◌+◌, ◌-◌, ◌<◌, List, [], length, vec_items, Some, None, sym, ap, ◌∙◌, subst, arith, rules}
use Rattle.std.proofs.lemmas.List.{length_push}
use lib.Bits.{bit_or}
use Rattle.datapath.specs.declared.level.Mark.{Mark}
use Rattle.datapath.specs.Crossed.{marks_of}
use Rattle.flow.proofs.Firsts.{none_since}
use Rattle.datapath.proofs.Tours.{Touring, Toured, seen_at, tour_begin, tour_stop, tour_last, tour_on, tour_over}
use Rattle.datapath.proofs.four.Four.walk.Goals as goal

pub loop-init : goal.loop-init
loop-init g c =
    let e : marks_of c.new.result ≡ [] = search rules in
    let b = tour_begin g.C.Classifier.gives g.C.Classifier.rules (vec_items c.args.self.now.classifiers) c.args.key.now c.empty_mask.result c.empty_mask.ensures in
    record {
      counted = search rules;
      touring = subst (λ (xs : List Mark). Touring g.C.Classifier.gives g.C.Classifier.rules (vec_items c.args.self.now.classifiers) c.args.key.now 4 0 0 c.empty_mask.result xs) (sym e) b;
    }

pub returns-in_default : goal.returns-in_default
returns-in_default g c =
    let cs = vec_items c.args.self.now.classifiers in
    let lt : c.loop.table < length cs = omega (arith, c.args.self.now.four, c.loop.invariant.touring.in_range) in
    let fuel : 4 - c.loop.counter ≡ suc (4 - (c.loop.counter + 1)) = omega (arith, c.loop-test.true) in
    let z = seen_at g.C.Classifier.gives g.C.Classifier.rules cs c.args.key.now c.loop.table c.find-find.result.mask None c.index.result.now lt c.index.ensures (sym (none_since _ c.in_default.not-Some) ∙ c.find-find.ensures.rule) c.find-find.ensures.mask.tells c.find-find.ensures.given in
    let e = tour_stop g.C.Classifier.gives g.C.Classifier.rules cs c.args.key.now _ _ _ _ _ _ _ _ c.loop.invariant.touring fuel c.union_into.ensures z in
    record { crossed = e.crossed; ports = e.ports; mask = e.mask; given = e.given; places = e.low }

pub returns-then-rule-eq0 : goal.returns-then-rule-eq0
returns-then-rule-eq0 g c =
    let cs = vec_items c.args.self.now.classifiers in
    let h = c.in-Some.rule in
    let lt : c.loop.table < length cs = omega (arith, c.args.self.now.four, c.loop.invariant.touring.in_range) in
    let fuel : 4 - c.loop.counter ≡ suc (4 - (c.loop.counter + 1)) = omega (arith, c.loop-test.true) in
    let z = seen_at g.C.Classifier.gives g.C.Classifier.rules cs c.args.key.now c.loop.table c.find-find.result.mask (Some h) c.index.result.now lt c.index.ensures (sym c.in-Some.is ∙ c.find-find.ensures.rule) c.find-find.ensures.mask.tells c.find-find.ensures.given in
    let e = tour_last g.C.Classifier.gives g.C.Classifier.rules cs c.args.key.now _ _ _ _ _ _ _ _ c.loop.invariant.touring fuel c.union_into.ensures h z c.if-rule-eq0.true in
    let t = subst (λ (xs : List Mark). Toured g.C.Classifier.gives g.C.Classifier.rules cs c.args.key.now xs (bit_or c.loop.walk.ports h.ports) c.union_into.new.into) (sym c.push.ensures) e in
    record { crossed = t.crossed; ports = t.ports; mask = t.mask; given = t.given; places = t.low }

pub loop-preserved : goal.loop-preserved
loop-preserved g c =
    let cs = vec_items c.args.self.now.classifiers in
    let h = c.in-Some.rule in
    let lt : c.loop.table < length cs = omega (arith, c.args.self.now.four, c.loop.invariant.touring.in_range) in
    let fuel : 4 - c.loop.counter ≡ suc (4 - (c.loop.counter + 1)) = omega (arith, c.loop-test.true) in
    let z = seen_at g.C.Classifier.gives g.C.Classifier.rules cs c.args.key.now c.loop.table c.find-find.result.mask (Some h) c.index.result.now lt c.index.ensures (sym c.in-Some.is ∙ c.find-find.ensures.rule) c.find-find.ensures.mask.tells c.find-find.ensures.given in
    let e = tour_on g.C.Classifier.gives g.C.Classifier.rules cs c.args.key.now _ _ _ _ _ _ _ _ c.loop.invariant.touring fuel c.union_into.ensures h c.from-table.result c.args.self.now.four c.args.self.now.lawful.forward z c.if-rule-eq0.false c.from-table.ensures in
    record {
      counted = ap length c.push.ensures ∙ length_push (marks_of c.loop.walk.crossed) _ ∙ ap (λ n. n + 1) c.loop.invariant.counted;
      touring = subst (λ (xs : List Mark). Touring g.C.Classifier.gives g.C.Classifier.rules cs c.args.key.now (4 - (c.loop.counter + 1)) c.from-table.result (bit_or c.loop.walk.ports h.ports) c.union_into.new.into xs) (sym c.push.ensures) e;
    }

pub returns : goal.returns
returns g c =
    let e = tour_over g.C.Classifier.gives g.C.Classifier.rules (vec_items c.args.self.now.classifiers) c.args.key.now _ _ _ _ _ c.loop.invariant.touring (omega (arith, c.loop-test.false)) in
    record { crossed = e.crossed; ports = e.ports; mask = e.mask; given = e.given; places = e.low }
