use Rattle.std.proofs.Common.{get_or, set, sym, ap, subst, arith}
use lib.Bits.{bit_or}
use Rattle.std.proofs.lemmas.Nat.{one_shl}
use Rattle.search.specs.Buckets.{Marked}
use Rattle.search.proofs.Marks.{marked_set}
use Rattle.search.proofs.index.mark.Goals as goal

pub returns-then-slot-lt128 : goal.returns-then-slot-lt128
returns-then-slot-lt128 c =
    let bs = c.args.buckets.now in
    let b = c.args.bucket in
    let i = c.args.slot in
    let q = ap (λ p. set bs b (bit_or (get_or bs b 0) p)) (one_shl i 128 (omega arith)) in
    subst (λ z. Marked bs z b i) (sym q) (marked_set bs b i (omega (arith, c.told-buckets)) (omega arith))
