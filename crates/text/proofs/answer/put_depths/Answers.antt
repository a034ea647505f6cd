use Rattle.std.proofs.Common.{arith}
use Rattle.text.specs.Answers.{depths_text}
use Rattle.text.proofs.Appends.{then}
use Rattle.text.proofs.answer.put_depths.Goals as goal

pub returns : goal.returns
unfolding depths_text
returns c =
    record {
      items = then (then (then c.put.ensures.items c.put_byte.ensures.items) c.put-2.ensures.items) c.put_byte-2.ensures.items;
      len = omega arith;
      capacity = omega arith;
    }
