use Rattle.std.proofs.Common.{arith}
use Rattle.text.proofs.Decimal.{length_text}
use Rattle.text.proofs.put.put_number.Goals as goal

pub put_decimal-requires : goal.put_decimal-requires
put_decimal-requires c = omega (arith, length_text 20 c.args.n (omega arith) (omega arith) (omega arith))

pub returns : goal.returns
returns c =
    record {
      items = c.put_decimal.ensures.items;
      len = omega (arith, length_text 20 c.args.n (omega arith) (omega arith) (omega arith));
      capacity = c.put_decimal.ensures.capacity;
    }
