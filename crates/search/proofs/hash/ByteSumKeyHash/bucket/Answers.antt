use Rattle.std.proofs.Common.{◌≡◌, ◌%◌, sym, ap, ◌∙◌, arith}
use Rattle.flow.specs.Masks.{masked}
use Rattle.search.specs.Sums.{sum_below, products, weights, byte_sum}
use Rattle.search.proofs.SumLaws.{sum_none, sum_step, sum_bits}
use Rattle.search.proofs.hash.ByteSumKeyHash.bucket.Goals as goal

pub loop-i-init : goal.loop-i-init
loop-i-init c = sym (ap (λ x. x % 65536) (sum_none (products (masked c.args.mask.now c.args.key.now))))

pub loop-i-preserved : goal.loop-i-preserved
unfolding weights
loop-i-preserved c =
    sum_step c.args.mask.now c.args.key.now c.loop-i.i c.loop-i.sum c.weighed-sum.result c.weighed-sum.ensures c.loop-i.invariant

pub returns : goal.returns
unfolding byte_sum
returns c =
    let f = products (masked c.args.mask.now c.args.key.now) in
    let e : c.loop-i.i ≡ 36 = omega arith in
    c.from.ensures ∙ sum_bits c.loop-i.sum (sum_below f 36) (c.loop-i.invariant ∙ ap (λ n. sum_below f n % 65536) e)
