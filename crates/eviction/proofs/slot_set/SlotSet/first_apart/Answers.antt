use Rattle.std.proofs.Common.{arith}
use Rattle.eviction.specs.BitmapLaws.{none_apart, first_apart}
use Rattle.eviction.proofs.slot_set.SlotSet.first_apart.Goals as goal

pub returns-then-left-eq0 : goal.returns-then-left-eq0
returns-then-left-eq0 c = none_apart c.args.self.bits c.args.other.bits c.args.from (omega arith) (omega arith) c.requires c.if-left-eq0.true

pub returns : goal.returns
returns c = first_apart c.args.self.bits c.args.other.bits c.args.from (omega arith) (omega arith) c.requires (omega arith)
