use Rattle.std.proofs.Common.{ap, arith}
use Rattle.text.specs.Texts.{decimal_text}
use Rattle.text.proofs.Appends.{as_text}
use Rattle.text.proofs.Decimal.{length_text}
use Rattle.text.proofs.put.put_byte.Goals as goal

pub put_decimal-requires : goal.put_decimal-requires
put_decimal-requires c = omega (arith, length_text 3 c.from.result (omega arith) (omega arith) (omega arith))

pub returns : goal.returns
returns c =
    record {
      items = as_text (ap decimal_text c.from.ensures) c.put_decimal.ensures.items;
      len = omega (arith, length_text 3 c.from.result (omega arith) (omega arith) (omega arith));
      capacity = c.put_decimal.ensures.capacity;
    }
