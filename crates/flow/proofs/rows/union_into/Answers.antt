use Rattle.std.proofs.Common.{arith}
use Rattle.flow.proofs.Places.{union_from_places}
use Rattle.flow.proofs.rows.union_into.Goals as goal

pub returns : goal.returns
returns c =
    union_from_places 36 c.args.into.now c.args.mask.now _ c.told-into c.told-mask c.loop-i.invariant.0
    (λ k h. c.loop-i.invariant.1 k (omega arith))
