use Rattle.rule.proofs.PartLaws.{cut_is}
use Rattle.rule.proofs.parts.cut.Goals as goal

pub returns : goal.returns
returns c = cut_is c.args.c c.args.text.now c.split_once.result c.split_once.ensures.cases c.requires
