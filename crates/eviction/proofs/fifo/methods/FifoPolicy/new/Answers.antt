use Rattle.std.proofs.Common.{vec_items}
use Rattle.eviction.specs.OrderLaws.{orderly_none, listed_none}
use Rattle.eviction.proofs.fifo.methods.FifoPolicy.new.Goals as goal

pub invariant_of-result : goal.invariant_of-result
invariant_of-result c =
    record { room = c.in_ok-order.ensures.capacity; ok = orderly_none (vec_items c.in_ok-order.order) c.in_ok-order.ensures.items }

pub returns : goal.returns
returns c =
    let e = c.in_ok-order.ensures.items in
    record { empty = λ i. listed_none (vec_items c.in_ok-order.order) i e; order = e }
