-- What contracts see of the tables.
use Rattle.std.specs.Prelude.{◌≡◌, List, map, length}
use Rattle.classifier.specs.declared.rule.Rule.{Rule}
use Rattle.datapath.specs.Walk.{TablesOf, LawfulTables}

-- the four classifiers, and the rules of the tables, which are lawful
pub record TablesValue (C : Type 0) : Type 0 where
  pub classifiers : List C
  pub rules : TablesOf
  pub four : length classifiers ≡ 4
  pub lawful : LawfulTables rules

-- the rules of the tables are those of their classifiers, where `rules_of` gives the rules of one
abbrev pub OfClassifiers : {C : Type 0} → (C → List Rule) → TablesValue C → Type 0
OfClassifiers rules_of s = map rules_of s.classifiers ≡ s.rules
