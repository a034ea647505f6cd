use Rattle.std.proofs.Common.{arith, pow_pos}
use Rattle.std.proofs.lemmas.Nat.{one_shl}
use Rattle.eviction.specs.BitmapLaws.{below_is}
use Rattle.eviction.proofs.slot_set.SlotSet.below.Goals as goal

pub overflow_sub-result : goal.overflow_sub-result
overflow_sub-result c = omega (arith, one_shl c.args.end 128 c.requires, pow_pos c.args.end)

pub returns : goal.returns
returns c = below_is c.args.self.bits c.args.end _ (omega arith) c.requires (one_shl c.args.end 128 c.requires)
