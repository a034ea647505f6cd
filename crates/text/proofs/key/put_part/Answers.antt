use Rattle.std.proofs.Common.{sym, ap, arith}
use Rattle.std.specs.Option.{option_map}
use Rattle.packet.specs.Readings.{span_of}
use Rattle.text.specs.Lines.{part_text}
use Rattle.text.proofs.Appends.{then, as_text}
use Rattle.text.proofs.key.put_part.Goals as goal

pub returns-in-Some : goal.returns-in-Some
unfolding part_text
returns-in-Some c =
    record {
      items =
          as_text (sym (ap (λ o. part_text (option_map span_of o)) c.in-Some.is))
          (then (then c.put_number.ensures.items c.put.ensures.items) c.put_number-in-Some.ensures.items);
      len = omega arith;
      capacity = omega arith;
    }

pub returns-in-None : goal.returns-in-None
unfolding part_text
returns-in-None c =
    record {
      items = as_text (sym (ap (λ o. part_text (option_map span_of o)) c.in-None.is)) c.put-in-None.ensures.items;
      len = omega arith;
      capacity = omega arith;
    }
