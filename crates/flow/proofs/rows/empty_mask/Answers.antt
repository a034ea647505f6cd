use Rattle.std.proofs.Common.{refl}
use Rattle.flow.specs.Masks.{empty_mask}
use Rattle.flow.proofs.rows.empty_mask.Goals as goal

pub returns : goal.returns
unfolding empty_mask
returns c = refl
