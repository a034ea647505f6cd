-- The rules of a store.
use Rattle.std.specs.Prelude.{List, vec_items}
use Rattle.classifier.specs.declared.rule.Rule.{Rule}
use Rattle.classifier.specs.declared.store.Store.{Store}
use Rattle.classifier.specs.Stores.{by_id}

-- the rules as they lie in the store
abbrev pub kept : Store → List Rule
kept s = vec_items s.rules

-- the rules that stand, by rising id
abbrev pub standing_rules : Store → List Rule
standing_rules s = by_id (kept s)
