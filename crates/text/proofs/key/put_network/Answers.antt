use Rattle.std.proofs.Common.{arith}
use Rattle.text.specs.Texts.{network_text}
use Rattle.text.proofs.Appends.{then}
use Rattle.text.proofs.key.put_network.Goals as goal

pub returns : goal.returns
unfolding network_text
returns c =
    record {
      items = then (then (then (then (then (then (then (then (then c.put.ensures.items c.put_byte.ensures.items) c.put-2.ensures.items) c.put_byte-2.ensures.items) c.put-3.ensures.items) c.put_byte-3.ensures.items) c.put-4.ensures.items) c.put_byte-4.ensures.items) c.put-5.ensures.items) c.put_flags.ensures.items;
      len = omega arith;
      capacity = omega arith;
    }
