use Rattle.std.proofs.Common.{◌≡◌, length, drop, None}
use Rattle.std.specs.Option.{option_map}
use Rattle.flow.specs.Masks.{union, empty_mask}
use Rattle.classifier.specs.Kept.{standing_rules}
use Rattle.tuple_space.specs.Visits.{searched, outcome, visited, joined}
use Rattle.tuple_space.proofs.visit.visit.Given as goal

abbrev pub invariant-loop-tuple : goal.invariant-loop-tuple
invariant-loop-tuple l =
    (length l.mask ≡ 36)
    × (outcome (λ f. f.priority) (searched (standing_rules l.store.store) l.key) l.top (drop l.tuple-index l.tuples) ≡ outcome (λ f. f.priority) (searched (standing_rules l.store.store) l.key) None l.tuples)
    × (union l.mask (joined (visited (standing_rules l.store.store) l.key (option_map (λ f. f.priority) l.top) (drop l.tuple-index l.tuples))) ≡ union empty_mask (joined (visited (standing_rules l.store.store) l.key None l.tuples)))
