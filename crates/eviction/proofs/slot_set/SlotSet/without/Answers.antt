use Rattle.std.proofs.Common.{◌<◌, arith}
use Rattle.std.proofs.lemmas.Nat.{one_shl}
use Rattle.eviction.specs.BitmapLaws.{without_is, without_past}
use Rattle.eviction.proofs.slot_set.SlotSet.without.Goals as goal

pub returns-then-slot-ge128 : goal.returns-then-slot-ge128
returns-then-slot-ge128 c = without_past c.args.self.bits c.args.slot c.args.self.wide c.if-slot-ge128.true

pub returns : goal.returns
returns c =
    let low : c.args.slot < 128 = omega (arith, c.if-slot-ge128.false) in
    without_is c.args.self.bits c.args.slot _ c.args.self.wide low (one_shl c.args.slot 128 low)
