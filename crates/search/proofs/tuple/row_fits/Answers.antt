use Rattle.std.proofs.Common.{sym, ◌∙◌}
use Rattle.search.proofs.RowLaws.{compared}
use Rattle.search.proofs.tuple.row_fits.Goals as goal

pub returns : goal.returns
returns c =
    compared c.args.own.now c.args.value.now c.args.mask.now c.args.key.now _ (c.told-own ∙ sym c.told-value) (c.told-value ∙ sym c.told-mask) (c.told-mask ∙ sym c.told-key) c.differing.ensures
