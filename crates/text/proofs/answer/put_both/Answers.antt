use Rattle.std.proofs.Common.{sym, arith}
use Rattle.text.proofs.Appends.{then, as_text}
use Rattle.text.proofs.Both.{one_said, both_said}
use Rattle.text.proofs.answer.put_both.Goals as goal

pub returns-then-same : goal.returns-then-same
returns-then-same c =
    record {
      items = as_text (one_said c.args.answers.a c.args.answers.b (sym c.if-same.ensures)) c.put_said.ensures.items;
      len = omega arith;
      capacity = omega arith;
    }

pub returns : goal.returns
returns c =
    record {
      items = as_text (both_said c.args.answers.a c.args.answers.b (sym c.if-same.ensures)) (then (then (then c.put.ensures.items c.put_said-2.ensures.items) c.put-2.ensures.items) c.put_said-3.ensures.items);
      len = omega arith;
      capacity = omega arith;
    }
