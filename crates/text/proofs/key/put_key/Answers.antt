use Rattle.std.proofs.Common.{arith}
use Rattle.text.specs.Texts.{key_text}
use Rattle.text.proofs.Appends.{then}
use Rattle.text.proofs.key.put_key.Goals as goal

pub returns : goal.returns
unfolding key_text
returns c =
    record {
      items = then (then c.put_link.ensures.items c.put_network.ensures.items) c.put_addresses.ensures.items;
      len = omega arith;
      capacity = omega arith;
    }
