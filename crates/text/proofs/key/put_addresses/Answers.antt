use Rattle.std.proofs.Common.{arith}
use Rattle.text.specs.Texts.{address_text}
use Rattle.text.proofs.Appends.{then}
use Rattle.text.proofs.key.put_addresses.Goals as goal

pub returns : goal.returns
unfolding address_text
returns c =
    record {
      items = then (then (then (then (then (then (then c.put.ensures.items c.put_quad.ensures.items) c.put-2.ensures.items) c.put_quad-2.ensures.items) c.put-3.ensures.items) c.put_word.ensures.items) c.put-4.ensures.items) c.put_word-2.ensures.items;
      len = omega arith;
      capacity = omega arith;
    }
