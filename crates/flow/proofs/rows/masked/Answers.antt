use Rattle.std.proofs.Common.{get_or, ◌∙◌, arith}
use lib.Bits.{and_comm}
use Rattle.flow.proofs.Places.{masked_from_places}
use Rattle.flow.proofs.rows.masked.Goals as goal

pub returns : goal.returns
returns c =
    let m = c.args.mask.now in
    let q = c.args.key.now in
    masked_from_places 36 m q _ c.told-mask c.told-key c.loop-i.invariant.0
    (λ k h. c.loop-i.invariant.1 k (omega arith) ∙ and_comm (get_or q k 0) (get_or m k 0))
