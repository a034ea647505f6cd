use Rattle.std.proofs.Common.{arith}
use Rattle.text.proofs.Appends.{then}
use Rattle.text.proofs.key.put_quad.Goals as goal

pub returns : goal.returns
returns c =
    record {
      items = then (then (then (then (then (then c.put_byte.ensures.items c.put.ensures.items) c.put_byte-2.ensures.items) c.put-2.ensures.items) c.put_byte-3.ensures.items) c.put-3.ensures.items) c.put_byte-4.ensures.items;
      len = omega arith;
      capacity = omega arith;
    }
