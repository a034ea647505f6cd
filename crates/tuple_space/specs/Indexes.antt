-- The index of the rules of a table.
use Rattle.std.specs.Prelude.{ℕ, true, List}
use Rattle.search.specs.Buckets.{Indexed, home}
use Rattle.search.specs.Sums.{byte_sum}
use Rattle.classifier.specs.declared.rule.Rule.{Rule}

-- the bucket of a rule
abbrev pub rule_home : Rule → ℕ
rule_home r = home byte_sum (λ s. s.mask) (λ s. s.value) r

-- the buckets are the index of the rules
abbrev pub IndexedRules : List Rule → List ℕ → Type 0
IndexedRules rs buckets = Indexed (λ _. true) rule_home rs buckets
