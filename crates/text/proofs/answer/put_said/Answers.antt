use Rattle.std.proofs.Common.{sym, ap, arith}
use Rattle.text.specs.Answers.{said_text}
use Rattle.text.proofs.Appends.{as_text}
use Rattle.text.proofs.answer.put_said.Goals as goal

pub returns-in-Ok : goal.returns-in-Ok
unfolding said_text
returns-in-Ok c =
    record {
      items = as_text (sym (ap said_text c.in-Ok.is)) c.put_reply.ensures.items;
      len = omega arith;
      capacity = omega arith;
    }

pub returns-in-Err : goal.returns-in-Err
unfolding said_text
returns-in-Err c =
    record {
      items = as_text (sym (ap said_text c.in-Err.is)) c.put_refusal.ensures.items;
      len = omega arith;
      capacity = omega arith;
    }
