use Rattle.std.proofs.Common.{sym, ap, arith}
use Rattle.text.specs.Answers.{reply_text}
use Rattle.text.proofs.Appends.{then, as_text}
use Rattle.text.proofs.answer.put_reply.Goals as goal

pub returns-in-Done : goal.returns-in-Done
returns-in-Done c =
    record {
      items = as_text (sym (ap reply_text c.in-Done.is)) c.put.ensures.items;
      len = omega arith;
      capacity = omega arith;
    }

pub returns-in-Count : goal.returns-in-Count
returns-in-Count c =
    record {
      items = as_text (sym (ap reply_text c.in-Count.is)) (then c.put-in-Count.ensures.items c.put_number.ensures.items);
      len = omega arith;
      capacity = omega arith;
    }

pub returns-in-Ports : goal.returns-in-Ports
returns-in-Ports c =
    record {
      items = as_text (sym (ap reply_text c.in-Ports.is)) (then c.put-in-Ports.ensures.items c.put_ports.ensures.items);
      len = omega arith;
      capacity = omega arith;
    }
