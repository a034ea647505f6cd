-- What a script says that its two switches are made of.
use Rattle.std.specs.Prelude.{List}
use Rattle.std.specs.List.{fold}
use Rattle.sides.specs.declared.Sides.{Sides}
use Rattle.pile.specs.declared.any_classifier.ClassifierKind.TheVariants.{Linear}
use Rattle.script.specs.declared.statement.Numbered.{Numbered}
use Rattle.script.specs.declared.statement.Pile.{Pile}
use Rattle.script.specs.declared.statement.Side.TheVariants.{A, B}
use Rattle.script.specs.declared.statement.Statement.{Statement}
use Rattle.script.specs.declared.statement.Statement.TheVariants.{Key, Keys, Switch, Call}

-- both have linear classifiers where nothing is said
abbrev pub unsaid : Sides Pile
unsaid = record { a = record { classifier = Linear }; b = record { classifier = Linear } }

-- a statement `switch` sets one of the two, and no other statement does
abbrev pub set_up : Sides Pile → Statement → Sides Pile
set_up p (Key sent) = p
set_up p (Keys recorded) = p
set_up p (Switch A pile) = record { a = pile; b = p.b }
set_up p (Switch B pile) = record { a = p.a; b = pile }
set_up p (Call call) = p

-- the statements in their order, so the last that is said of a switch holds
abbrev pub piles_of : List Numbered → Sides Pile
piles_of ns = fold (λ p n. set_up p n.statement) unsaid ns
