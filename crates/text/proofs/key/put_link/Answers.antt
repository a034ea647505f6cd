use Rattle.std.proofs.Common.{arith}
use Rattle.text.specs.Texts.{link_text}
use Rattle.text.proofs.Appends.{then}
use Rattle.text.proofs.key.put_link.Goals as goal

pub returns : goal.returns
unfolding link_text
returns c =
    record {
      items = then (then (then (then (then (then (then (then (then c.put.ensures.items c.put_word.ensures.items) c.put-2.ensures.items) c.put_mac.ensures.items) c.put-3.ensures.items) c.put_mac-2.ensures.items) c.put-4.ensures.items) c.put_hex.ensures.items) c.put-5.ensures.items) c.put_hex-2.ensures.items;
      len = omega arith;
      capacity = omega arith;
    }
