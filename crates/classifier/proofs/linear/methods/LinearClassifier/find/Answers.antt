use Rattle.std.proofs.Common.{Some, vec_items, refl, ap, ◌∙◌, rules}
use Rattle.classifier.proofs.ScanLaws.{first_next, first_here, first_none, looked_next, looked_here, looked_none}
use Rattle.classifier.proofs.PlaceLaws.{looked_from_slice}
use Rattle.classifier.proofs.linear.methods.LinearClassifier.find.Goals as goal

pub loop-rule-init : goal.loop-rule-init
loop-rule-init c =
    (search rules, refl, cc)

pub loop-rule-preserved : goal.loop-rule-preserved
loop-rule-preserved c = (
  search rules,
  first_next _ c.loop-rule.rule-index c.args.key.now _ c.loop-rule-test.true c.if-look.ensures.matched c.loop-rule.invariant.1,
  looked_next _ c.loop-rule.rule-index c.args.key.now _ _ _ _ c.loop-rule-test.true c.if-look.ensures.matched c.look.ensures.added c.loop-rule.invariant.2,
)

pub returns-then-look : goal.returns-then-look
returns-then-look c =
    let k = looked_from_slice _ (vec_items c.args.self.now.store.rules) c.args.key.now _ _ (search rules) (search rules)
    (first_here _ c.loop-rule.rule-index c.args.key.now _ c.loop-rule-test.true c.if-look.ensures.matched c.loop-rule.invariant.1)
    (looked_here _ c.loop-rule.rule-index c.args.key.now _ _ _ _ c.loop-rule-test.true c.if-look.ensures.matched c.look.ensures.added c.loop-rule.invariant.2) in
    record { rule = ap Some c.name.ensures ∙ k.rule; mask = k.mask; given = k.exact }

pub returns : goal.returns
returns c =
    let k = looked_from_slice _ (vec_items c.args.self.now.store.rules) c.args.key.now _ _ (search rules) (search rules)
    (first_none _ c.loop-rule.rule-index c.args.key.now c.loop-rule-test.false c.loop-rule.invariant.1)
    (looked_none _ c.loop-rule.rule-index c.args.key.now _ _ c.loop-rule-test.false c.loop-rule.invariant.0 c.loop-rule.invariant.2) in
    record { rule = k.rule; mask = k.mask; given = k.exact }
