use Rattle.std.proofs.Common.{arith}
use Rattle.text.specs.Answers.{same_ports, both_text, depths_text, forwarded_text}
use Rattle.text.proofs.Both.{shown, hidden}
use Rattle.text.proofs.answer.put_forwarded.Goals as goal

pub returns-then-name_same : goal.returns-then-name_same
unfolding forwarded_text
returns-then-name_same c =
    record {
      items = shown (same_ports c.args.answers.a c.args.answers.b) (both_text c.args.answers.a c.args.answers.b) (depths_text c.args.depths.a c.args.depths.b) c.if-name_same.ensures c.put_both.ensures.items c.put_depths.ensures.items;
      len = omega arith;
      capacity = omega arith;
    }

pub returns-else-name_same : goal.returns-else-name_same
unfolding forwarded_text
returns-else-name_same c =
    record {
      items = hidden (same_ports c.args.answers.a c.args.answers.b) (both_text c.args.answers.a c.args.answers.b) (depths_text c.args.depths.a c.args.depths.b) c.if-name_same.ensures c.put_both.ensures.items;
      len = omega arith;
      capacity = omega arith;
    }
