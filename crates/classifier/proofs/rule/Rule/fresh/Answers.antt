use Rattle.std.proofs.Common.{arith, rules}
use Rattle.flow.specs.Masks.{Bytes36, Within}
use Rattle.classifier.specs.StandingLaws.{new_sound}
use Rattle.classifier.proofs.rule.Rule.fresh.Goals as goal

pub returns-clause-sound : goal.returns-clause-sound
returns-clause-sound c =
    let k = c.args.new.key in
    let m : Bytes36 c.mask.result.now = record { long = search rules; bytes = search rules } in
    let v : Bytes36 c.value.result.now = record { long = search rules; bytes = search rules } in
    let w : Within c.value.result.now c.mask.result.now = search rules in
    new_sound c.args.new.id c.args.new.priority c.mask.result.now c.value.result.now c.args.new.ports c.args.new.next (omega arith) m v w
