use Rattle.std.proofs.Common.{◌∙◌}
use Rattle.eviction.specs.OrderLaws.{oldest_is, first_from}
use Rattle.eviction.proofs.fifo.places.first_of.Goals as goal

pub returns : goal.returns
returns c =
    let xs = c.args.order.now in
    first_from xs c.copied.result (c.copied.ensures ∙ oldest_is xs c.first.result c.first.ensures.item)
