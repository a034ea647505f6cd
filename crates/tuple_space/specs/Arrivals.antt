-- What a tuple-space classifier holds.
use Rattle.std.specs.Prelude.{ℕ, List, vec_items}
use Rattle.classifier.specs.Kept.{standing_rules}
use Rattle.classifier.specs.declared.rule.Rule.{Rule}
use Rattle.tuple_space.specs.declared.space.TupleSpace.{TupleSpace}
use Rattle.tuple_space.specs.Tuples.{masks_of}

-- the standing rules with their counts, by rising id
abbrev pub rules_of : TupleSpace → List Rule
rules_of s = standing_rules s.rules.store

-- the masks of the standing rules, in the order in which they came to stand
abbrev pub arrivals : TupleSpace → List (List ℕ)
arrivals s = masks_of (vec_items s.masks.arrived)
