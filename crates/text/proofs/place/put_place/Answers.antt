use Rattle.std.proofs.Common.{sym, ap, arith}
use Rattle.text.specs.Texts.{decimal_text}
use Rattle.text.specs.Lines.{place_text, frame_text}
use Rattle.text.proofs.Appends.{then, as_text}
use Rattle.text.proofs.place.put_place.Goals as goal

pub returns-in-Some : goal.returns-in-Some
unfolding place_text
returns-in-Some c =
    record {
      items =
          as_text (sym (ap (λ o. frame_text o (decimal_text c.args.place.line)) c.in-Some.is))
          (then (then c.put_number.ensures.items c.put.ensures.items) c.put_number-in-Some.ensures.items);
      len = omega arith;
      capacity = omega arith;
    }

pub returns-in-None : goal.returns-in-None
unfolding place_text
returns-in-None c =
    record {
      items = as_text (sym (ap (λ o. frame_text o (decimal_text c.args.place.line)) c.in-None.is)) c.put_number.ensures.items;
      len = omega arith;
      capacity = omega arith;
    }
