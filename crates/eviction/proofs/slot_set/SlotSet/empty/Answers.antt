use mathlib.Core.Path.{fun_ext}
use Rattle.eviction.specs.BitmapLaws.{in_set_none}
use Rattle.eviction.proofs.slot_set.SlotSet.empty.Goals as goal

pub returns : goal.returns
returns c = fun_ext in_set_none
