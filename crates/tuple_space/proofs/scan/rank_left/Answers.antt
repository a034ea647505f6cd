use Rattle.tuple_space.proofs.ChangeLaws.{rank_left_next, rank_left_end}
use Rattle.tuple_space.proofs.scan.rank_left.Goals as goal

pub loop-rule-preserved : goal.loop-rule-preserved
loop-rule-preserved c =
    rank_left_next c.args.rules.now c.loop-rule.rule-index c.args.mask.now c.loop-rule.top c.raised-top.result _ _ c.loop-rule-test.true c.raised-top.ensures c.loop-rule.invariant

pub returns : goal.returns
returns c =
    rank_left_end c.args.rules.now c.loop-rule.rule-index c.args.mask.now c.loop-rule.top _ c.loop-rule-test.false c.loop-rule.invariant
