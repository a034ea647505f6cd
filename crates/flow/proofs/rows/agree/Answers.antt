use Rattle.std.proofs.Common.{sym, ◌∙◌}
use Rattle.std.proofs.lemmas.Bool.Decides.{same_from_decides}
use Rattle.flow.proofs.MaskLaws.{agreeing_decides}
use Rattle.flow.proofs.Places.{agree_gathered}
use Rattle.flow.proofs.rows.agree.Goals as goal

pub returns : goal.returns
returns c =
    let m = c.args.mask.now in
    let a = c.args.a.now in
    let b = c.args.b.now in
    let d = agree_gathered m a b _ (c.told-mask ∙ sym c.told-a) (c.told-a ∙ sym c.told-b) c.parted.ensures in
    record { test = same_from_decides _ _ d (agreeing_decides m a b); means = d }
