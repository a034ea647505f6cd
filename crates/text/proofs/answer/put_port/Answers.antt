use Rattle.std.proofs.Common.{arith}
use Rattle.std.proofs.lemmas.Nat.{one_shl}
use Rattle.text.proofs.Appends.{then, as_text}
use Rattle.text.proofs.Ports.{alone, behind}
use Rattle.text.proofs.answer.put_port.Goals as goal

pub returns-then-set-port-eq0 : goal.returns-then-set-port-eq0
returns-then-set-port-eq0 c =
    record {
      items = as_text (alone c.args.set c.args.port _ (one_shl c.args.port 64 (omega arith)) c.if-set-port-eq0.true) c.put_byte.ensures.items;
      len = omega arith;
      capacity = omega arith;
    }

pub returns-else-set-port-eq0 : goal.returns-else-set-port-eq0
returns-else-set-port-eq0 c =
    record {
      items =
          as_text (behind c.args.set c.args.port _ (one_shl c.args.port 64 (omega arith)) c.if-set-port-eq0.false)
          (then c.put.ensures.items c.put_byte-else-set-port-eq0.ensures.items);
      len = omega arith;
      capacity = omega arith;
    }
