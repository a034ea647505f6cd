use Rattle.std.proofs.Common.{sym, ◌∙◌}
use Rattle.std.proofs.lemmas.Bool.Decides.{same_from_decides}
use Rattle.flow.proofs.MaskLaws.{covered_decides}
use Rattle.flow.proofs.Places.{covers_gathered}
use Rattle.flow.proofs.rows.covers.Goals as goal

pub returns : goal.returns
returns c =
    let m = c.args.mask.now in
    let v = c.args.value.now in
    let k = c.args.key.now in
    let d = covers_gathered m v k _ (c.told-mask ∙ sym c.told-value) (c.told-value ∙ sym c.told-key) c.differing.ensures in
    record { test = same_from_decides _ _ d (covered_decides m v k); means = d }
