-- The parts that are chosen at run time, by case.
use Rattle.std.specs.Prelude.{ℕ, List, []}
use Rattle.classifier.specs.Kept.{standing_rules}
use Rattle.classifier.specs.Stores.{linear_mask}
use Rattle.classifier.specs.declared.rule.Rule.{Rule}
use Rattle.tuple_space.specs.Arrivals.{rules_of, arrivals}
use Rattle.tuple_space.specs.Tuples.{arrived, left_after}
use Rattle.tuple_space.specs.Visits.{tuple_mask}
use Rattle.pile.specs.declared.any_classifier.AnyClassifier.{AnyClassifier}
use Rattle.pile.specs.declared.any_classifier.AnyClassifier.TheVariants.{Linear, Tuple}
use Rattle.pile.specs.declared.any_classifier.ClassifierKind.{ClassifierKind}
use Rattle.pile.specs.declared.any_classifier.ClassifierKind.TheVariants as kind

-- what is kept beside the rules: nothing, or the order in which the masks came to stand
pub data Order : Type 0 where
  none : Order
  of_masks : List (List ℕ) → Order

-- the standing rules, by case
abbrev pub any_rules : AnyClassifier → List Rule
any_rules (Linear c) = standing_rules c.store
any_rules (Tuple c) = rules_of c

-- the order of masks, by case
abbrev pub order : AnyClassifier → Order
order (Linear c) = none
order (Tuple c) = of_masks (arrivals c)

-- a new classifier of the kind
abbrev pub new_order : ClassifierKind → Order
new_order kind.Linear = none
new_order kind.Tuple = of_masks []

-- the order after a rule of mask m was added to the rules
abbrev pub order_added : Order → List Rule → List ℕ → Order
order_added none rs m = none
order_added (of_masks ms) rs m = of_masks (arrived ms rs m)

-- the order after the rule of this id was removed
abbrev pub order_removed : Order → List Rule → ℕ → Order
order_removed none rs i = none
order_removed (of_masks ms) rs i = of_masks (left_after ms rs i)

-- the mask of a find among the rules
abbrev pub find_mask : Order → List Rule → List ℕ → List ℕ
find_mask none rs k = linear_mask rs k
find_mask (of_masks ms) rs k = tuple_mask ms rs k
