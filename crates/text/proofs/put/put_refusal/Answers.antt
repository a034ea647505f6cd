use Rattle.std.proofs.Common.{arith}
use Rattle.text.specs.Texts.{decimal_text}
use Rattle.text.proofs.Appends.{then}
use Rattle.text.proofs.put.put_refusal.Goals as goal

pub returns : goal.returns
unfolding decimal_text
returns c =
    record {
      items = then (then (then (then c.put.ensures.items c.put_byte.ensures.items) c.put-2.ensures.items) c.put_number.ensures.items) c.put-3.ensures.items;
      len = omega arith;
      capacity = omega arith;
    }
