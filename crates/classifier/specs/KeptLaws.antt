-- The rules of a store may stand in one table.
use Rattle.classifier.specs.declared.store.Store.{Store}
use Rattle.classifier.specs.Kept.{kept, standing_rules}
use Rattle.classifier.specs.Rules.{Lawful}
use Rattle.classifier.specs.StandingLaws.{Stored, stored_from_test, lawful_stored}

pub stored_kept : (s : Store) → Stored (kept s)
stored_kept s = stored_from_test (kept s) s.ok

pub lawful_kept : (s : Store) → Lawful (standing_rules s)
lawful_kept s = lawful_stored (kept s) (stored_kept s)
