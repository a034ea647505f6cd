use Rattle.std.proofs.Common.{◌+◌, ◌/◌, ◌^◌, vec_items, inl, inr, refl, arith}
use Rattle.std.specs.Int.{trailing_zeros, w64}
use Rattle.text.proofs.Appends.{then, as_text}
use Rattle.text.proofs.Ports.{none_below, next_port, with_port, last_port, no_ports}
use Rattle.text.proofs.answer.put_ports.Goals as goal

pub returns-then-set-eq0 : goal.returns-then-set-eq0
returns-then-set-eq0 c =
    record {
      items = as_text (no_ports c.args.set c.if-set-eq0.true) c.put.ensures.items;
      len = omega arith;
      capacity = omega arith;
    }

pub loop-below-init : goal.loop-below-init
loop-below-init c = (omega arith, none_below c.args.set (vec_items c.args.out.now), omega arith, omega arith)

pub put_port-requires : goal.put_port-requires
put_port-requires c =
    let next = next_port c.args.set c.loop-below.below (omega arith) c.if-set-below-ne0.true in
    (omega (arith, next.is_port, next.above), next.is_port)

pub loop-below-preserved : goal.loop-below-preserved
loop-below-preserved c =
    let set = c.args.set in
    let below = c.loop-below.below in
    let port = below + trailing_zeros w64 (set / 2 ^ below) in
    let next = next_port set below (omega arith) c.if-set-below-ne0.true in (
      omega (arith, next.is_port),
      as_text (with_port set below port _ next refl) (then c.loop-below.invariant.1 c.put_port.ensures.items),
      omega (arith, next.above),
      omega arith,
    )

pub returns-else-set-below-ne0 : goal.returns-else-set-below-ne0
returns-else-set-below-ne0 c =
    record {
      items = as_text (last_port c.args.set c.loop-below.below c.loop-below.invariant.0 (inr c.if-set-below-ne0.false) c.if-set-eq0.false) c.loop-below.invariant.1;
      len = omega arith;
      capacity = omega arith;
    }

pub returns-after-loop-below : goal.returns-after-loop-below
returns-after-loop-below c =
    record {
      items = as_text (last_port c.args.set c.loop-below.below c.loop-below.invariant.0 (inl (omega (arith, c.loop-below-test.false))) c.if-set-eq0.false) c.loop-below.invariant.1;
      len = omega arith;
      capacity = omega arith;
    }
