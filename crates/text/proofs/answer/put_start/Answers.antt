use Rattle.std.proofs.Common.{arith}
use Rattle.text.specs.Answers.{start_text}
use Rattle.text.proofs.Appends.{then}
use Rattle.text.proofs.answer.put_start.Goals as goal

pub returns : goal.returns
unfolding start_text
returns c =
    record {
      items = then (then (then c.put_place.ensures.items c.put.ensures.items) c.put_verb.ensures.items) c.put-2.ensures.items;
      len = omega arith;
      capacity = omega arith;
    }
