-- The law of finding, above the definition of the best rule.
use Rattle.std.specs.Prelude.{◌≡◌, ℕ, ◌<◌, true, false, List, Some, None, Option, ◌≢◌}
use Rattle.std.specs.List.{ContainsAt}
use Rattle.classifier.specs.declared.rule.Rule.{Rule}
use Rattle.classifier.specs.Rules.{matches, best, Lawful}

-- the rule decides the key: it is one of the rules, it matches, and every other rule that matches has a lower priority
pub record DecidesKey (rs : List Rule) (k : List ℕ) (b : Rule) : Type 0 where
  pub one_of : ContainsAt rs b
  pub covers : matches b k ≡ true
  pub highest : (r : Rule) → ContainsAt rs r → matches r k ≡ true → (r ≢ b) → r.priority < b.priority

-- what a rule that is found, or none, says of the rules
abbrev pub Decided : List Rule → List ℕ → Option Rule → Type 0
Decided rs k None = (r : Rule) → ContainsAt rs r → matches r k ≡ false
Decided rs k (Some b) = DecidesKey rs k b

-- of the rules of a table, the best decides; there is none only where no rule matches
abbrev pub BestDecides : Type 0
BestDecides = (rs : List Rule) (k : List ℕ) → Lawful rs → Decided rs k (best rs k)
