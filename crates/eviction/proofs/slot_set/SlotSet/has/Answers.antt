use Rattle.std.proofs.Common.{sym, ◌∙◌, arith}
use Rattle.std.proofs.lemmas.Bool.{le-ltb}
use Rattle.eviction.specs.BitmapLaws.{in_set_test, past_out}
use Rattle.eviction.proofs.slot_set.SlotSet.has.Goals as goal

pub returns-then-slot-lt128 : goal.returns-then-slot-lt128
returns-then-slot-lt128 c = in_set_test c.args.self.bits c.args.slot

pub returns-else-slot-lt128 : goal.returns-else-slot-lt128
returns-else-slot-lt128 c = le-ltb c.args.slot 128 (omega arith) ∙ sym (past_out c.args.self.bits c.args.slot (omega arith) (omega arith))
