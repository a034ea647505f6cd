use Rattle.std.proofs.Common.{arith}
use Rattle.text.specs.Answers.{same_ports, both_text, masks_text, peeked_text}
use Rattle.text.proofs.Both.{shown, hidden}
use Rattle.text.proofs.answer.put_peeked.Goals as goal

pub returns-then-name_same : goal.returns-then-name_same
unfolding peeked_text
returns-then-name_same c =
    record {
      items = shown (same_ports c.args.answers.a c.args.answers.b) (both_text c.args.answers.a c.args.answers.b) (masks_text c.args.masks.now.a c.args.masks.now.b) c.if-name_same.ensures c.put_both.ensures.items c.put_masks.ensures.items;
      len = omega arith;
      capacity = omega arith;
    }

pub returns-else-name_same : goal.returns-else-name_same
unfolding peeked_text
returns-else-name_same c =
    record {
      items = hidden (same_ports c.args.answers.a c.args.answers.b) (both_text c.args.answers.a c.args.answers.b) (masks_text c.args.masks.now.a c.args.masks.now.b) c.if-name_same.ensures c.put_both.ensures.items;
      len = omega arith;
      capacity = omega arith;
    }
