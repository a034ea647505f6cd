use Rattle.std.proofs.Common.{◌≡◌, eqb, vec_items, Some, None, rules}
use Rattle.std.specs.List.{position}
use Rattle.eviction.specs.OrderLaws.{left_at, left_none}
use Rattle.eviction.proofs.fifo.places.leave.Goals as goal

pub returns-in-Some-clause-order : goal.returns-in-Some-clause-order
returns-in-Some-clause-order c =
    let xs = vec_items c.args.order.now in
    let e : position (λ x. eqb x c.args.slot) xs ≡ Some c.in-Some.place = search rules in
    left_at xs (vec_items c.remove.new.self) c.args.slot c.in-Some.place c.requires e c.remove.ensures.items

pub returns-in_default-clause-order : goal.returns-in_default-clause-order
returns-in_default-clause-order c =
    let xs = vec_items c.args.order.now in
    let e : position (λ x. eqb x c.args.slot) xs ≡ None = search rules in
    left_none xs c.args.slot c.requires e
