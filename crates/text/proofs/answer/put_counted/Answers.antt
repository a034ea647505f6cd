use Rattle.std.proofs.Common.{arith}
use Rattle.text.specs.Answers.{counted_text}
use Rattle.text.proofs.Appends.{then}
use Rattle.text.proofs.answer.put_counted.Goals as goal

pub returns : goal.returns
unfolding counted_text
returns c =
    record {
      items = then (then (then (then (then (then (then c.put.ensures.items c.put_number.ensures.items) c.put-2.ensures.items) c.put_number-2.ensures.items) c.put-3.ensures.items) c.put_number-3.ensures.items) c.put-4.ensures.items) c.put_number-4.ensures.items;
      len = omega arith;
      capacity = omega arith;
    }
