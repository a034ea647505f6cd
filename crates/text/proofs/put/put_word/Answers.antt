use Rattle.std.proofs.Common.{◌≡◌, ◌+◌, ◌*◌, ap, arith}
use Rattle.text.specs.Texts.{decimal_text}
use Rattle.text.proofs.Appends.{as_text}
use Rattle.text.proofs.Decimal.{length_text}
use Rattle.text.proofs.put.put_word.Goals as goal

pub put_decimal-requires : goal.put_decimal-requires
put_decimal-requires c = omega (arith, length_text 5 (c.from.result * 256 + c.from-2.result) (omega arith) (omega arith) (omega arith))

pub returns : goal.returns
returns c =
    let e : c.from.result * 256 + c.from-2.result ≡ c.args.high * 256 + c.args.low = omega arith in
    record {
      items = as_text (ap decimal_text e) c.put_decimal.ensures.items;
      len = omega (arith, length_text 5 (c.from.result * 256 + c.from-2.result) (omega arith) (omega arith) (omega arith));
      capacity = c.put_decimal.ensures.capacity;
    }
