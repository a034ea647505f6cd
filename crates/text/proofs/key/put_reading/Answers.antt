use Rattle.std.proofs.Common.{arith}
use Rattle.text.specs.Lines.{reading_text}
use Rattle.text.proofs.Appends.{then}
use Rattle.text.proofs.key.put_reading.Goals as goal

pub returns : goal.returns
unfolding reading_text
returns c =
    record {
      items = then (then (then (then c.put_key.ensures.items c.put.ensures.items) c.put_part.ensures.items) c.put-2.ensures.items) c.put_part-2.ensures.items;
      len = omega arith;
      capacity = omega arith;
    }
