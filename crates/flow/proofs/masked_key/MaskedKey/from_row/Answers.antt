use Rattle.std.proofs.Common.{sym, ◌∙◌}
use Rattle.flow.proofs.OutsideLaws.{within_from_none}
use Rattle.flow.proofs.masked_key.MaskedKey.from_row.Goals as goal

pub invariant_of-result : goal.invariant_of-result
invariant_of-result c =
    record { fits = within_from_none c.args.mask.now c.args.value.now (c.told-mask ∙ sym c.told-value) (sym c.in-None.ensures) }
