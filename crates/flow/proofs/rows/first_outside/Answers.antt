use Rattle.std.proofs.Common.{sym, ◌∙◌}
use Rattle.flow.proofs.OutsideLaws.{outside_position}
use Rattle.flow.proofs.rows.first_outside.Goals as goal

pub returns : goal.returns
returns c = c.lacking.ensures ∙ outside_position c.args.mask.now c.args.value.now (c.told-mask ∙ sym c.told-value)
