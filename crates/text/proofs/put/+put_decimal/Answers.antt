use Rattle.std.proofs.Common.{◌++◌, vec_items, sym, ap, ◌∙◌, arith}
use Rattle.text.proofs.Appends.{then, as_text}
use Rattle.text.proofs.Decimal.{text_digit, text_step, length_digit, length_step}
use Rattle.text.proofs.put.+put_decimal.Goals as goal

pub push_reserved-requires : goal.push_reserved-requires
push_reserved-requires t c = omega (arith, length_digit c.args.n (omega arith))

pub put_decimal-requires : goal.put_decimal-requires
put_decimal-requires t c = (omega arith, omega (arith, length_step c.args.n (omega arith) (omega arith)))

pub push_reserved-requires-else-n-lt10 : goal.push_reserved-requires-else-n-lt10
push_reserved-requires-else-n-lt10 t c = omega (arith, length_step c.args.n (omega arith) (omega arith))

pub returns-then-n-lt10 : goal.returns-then-n-lt10
returns-then-n-lt10 t c =
    record {
      items = record { is = c.push_reserved.ensures.items ∙ ap (λ z. vec_items c.args.out.now ++ z) (sym (text_digit c.args.n (omega arith))) };
      len = omega (arith, length_digit c.args.n (omega arith));
      capacity = omega arith;
    }

pub returns-else-n-lt10 : goal.returns-else-n-lt10
returns-else-n-lt10 t c =
    record {
      items =
          as_text (sym (text_step c.args.n (omega arith) (omega arith)))
          (then c.put_decimal.ensures.items (record { is = c.push_reserved-else-n-lt10.ensures.items }));
      len = omega (arith, length_step c.args.n (omega arith) (omega arith));
      capacity = omega arith;
    }
