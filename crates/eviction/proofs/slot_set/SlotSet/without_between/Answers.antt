use Rattle.std.proofs.Common.{◌<◌, arith}
use Rattle.std.proofs.lemmas.Nat.{one_shl}
use Rattle.eviction.specs.BitmapLaws.{without_between_is, pow_up}
use Rattle.eviction.proofs.slot_set.SlotSet.without_between.Goals as goal

pub overflow_sub-result : goal.overflow_sub-result
overflow_sub-result c =
    let h : c.args.from < 128 = omega (arith, c.requires.ends, c.requires.order) in
    omega (arith, one_shl c.args.to 128 c.requires.ends, one_shl c.args.from 128 h, pow_up c.args.from c.args.to c.requires.order)

pub returns : goal.returns
returns c =
    let h : c.args.from < 128 = omega (arith, c.requires.ends, c.requires.order) in
    without_between_is c.args.self.bits c.args.from c.args.to _ _ (omega arith) c.requires.order c.requires.ends (one_shl c.args.to 128 c.requires.ends) (one_shl c.args.from 128 h)
