use Rattle.std.proofs.Common.{◌<◌, arith}
use Rattle.std.proofs.lemmas.Nat.{one_shl, or_lt}
use Rattle.std.proofs.Math.Pow.{pow-lt}
use Rattle.eviction.specs.BitmapLaws.{with_is}
use Rattle.eviction.proofs.slot_set.SlotSet.with.Goals as goal

pub invariant_of-result : goal.invariant_of-result
invariant_of-result c =
    let low : c.args.slot < 128 = omega (arith, c.if-slot-ge128.false) in
    record { wide = or_lt 128 c.args.self.bits _ c.args.self.wide (rw (one_shl c.args.slot 128 low) (pow-lt low)) }

pub returns : goal.returns
returns c =
    let low : c.args.slot < 128 = omega (arith, c.if-slot-ge128.false) in
    with_is c.args.self.bits c.args.slot _ low (one_shl c.args.slot 128 low)
