use Rattle.std.proofs.Common.{arith}
use Rattle.text.specs.Answers.{masks_text}
use Rattle.text.proofs.Appends.{then}
use Rattle.text.proofs.answer.put_masks.Goals as goal

pub returns : goal.returns
unfolding masks_text
returns c =
    record {
      items = then (then (then c.put.ensures.items c.put_row.ensures.items) c.put-2.ensures.items) c.put_row-2.ensures.items;
      len = omega arith;
      capacity = omega arith;
    }
