use Rattle.std.proofs.Common.{ap, arith}
use Rattle.text.specs.Texts.{decimal_text}
use Rattle.text.specs.Answers.{rule_text}
use Rattle.text.proofs.Appends.{then, as_text}
use Rattle.text.proofs.answer.put_rule.Goals as goal

pub returns : goal.returns
unfolding rule_text
returns c =
    record {
      items = then (then (then (then c.put.ensures.items (as_text (ap decimal_text c.from.ensures) c.put_number.ensures.items)) c.put-2.ensures.items) (as_text (ap decimal_text c.from-2.ensures) c.put_number-2.ensures.items)) c.put-3.ensures.items;
      len = omega arith;
      capacity = omega arith;
    }
