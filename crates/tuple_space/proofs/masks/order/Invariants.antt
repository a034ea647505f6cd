use Rattle.std.proofs.Common.{◌≡◌, ◌≤◌, [], drop, vec_items, vec_len, vec_capacity}
use Rattle.tuple_space.specs.Visits.{ordered}
use Rattle.tuple_space.proofs.masks.order.Given as goal

abbrev pub invariant-loop-tuple : goal.invariant-loop-tuple
invariant-loop-tuple l =
    record {
      placed : ordered (vec_items l.visits) (drop l.tuple-index l.arrived) ≡ ordered [] l.arrived;
      many : vec_len l.visits ≡ l.tuple-index;
      room : 64 ≤ vec_capacity l.visits;
    }
