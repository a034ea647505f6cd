use Rattle.std.proofs.Common.{◌≡◌, ◌%◌}
use Rattle.flow.specs.Masks.{masked}
use Rattle.search.specs.Sums.{products, sum_below}
use Rattle.search.proofs.hash.ByteSumKeyHash.bucket.Given as goal

abbrev pub invariant-loop-i : goal.invariant-loop-i
invariant-loop-i l = l.sum ≡ sum_below (products (masked l.mask l.key)) l.i % 65536
