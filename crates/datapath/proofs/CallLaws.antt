-- Which refusal comes first.
use Rattle.std.proofs.Common.{◌≡◌, ℕ, true, Some, None, Option, ap, ◌∙◌, ap₂, arith}
use Rattle.std.proofs.lemmas.Bool.Decides.{nat_tests}
use Rattle.flow.specs.Masks.{first_outside}
use Rattle.classifier.specs.Tables.{Refusal, add_refusal, missing_refusal}
use Rattle.datapath.specs.declared.level.RuleRecord.{RuleRecord}
use Rattle.datapath.specs.Calls.{or_else, table_refusal, outside_refusal, action_refusal, record_refusal, rule_of, add_fault, missing_fault}
use Rattle.datapath.specs.Walk.{TablesOf, table_of, good_next}

pub missing_table : (ts : TablesOf) (t i : ℕ) (x : Refusal) → table_refusal t ≡ Some x → missing_fault ts t i ≡ Some x
unfolding missing_fault
missing_table ts t i x e = ap (λ o. or_else o (missing_refusal (table_of ts t) i)) e

pub missing_within : (ts : TablesOf) (t i : ℕ) (o : Option Refusal) → table_refusal t ≡ None → missing_refusal (table_of ts t) i ≡ o → missing_fault ts t i ≡ o
unfolding missing_fault
missing_within ts t i o e f = ap₂ or_else e f

module _ (ts : TablesOf) (r : RuleRecord) where
  pub add_table : (x : Refusal) → table_refusal r.table ≡ Some x → add_fault ts r ≡ Some x
  unfolding add_fault record_refusal
  add_table x e = ap (λ o. or_else (or_else o (or_else (outside_refusal (first_outside r.mask r.value)) (action_refusal r.table r.ports r.next))) (add_refusal (table_of ts r.table) (rule_of r))) e

  pub add_outside : (b : ℕ) → table_refusal r.table ≡ None → first_outside r.mask r.value ≡ Some b → add_fault ts r ≡ Some (6, b)
  unfolding add_fault record_refusal
  add_outside b e f = ap₂ (λ o p. or_else (or_else o (or_else (outside_refusal p) (action_refusal r.table r.ports r.next))) (add_refusal (table_of ts r.table) (rule_of r))) e f

  pub record_action : (o : Option Refusal) → table_refusal r.table ≡ None → first_outside r.mask r.value ≡ None → action_refusal r.table r.ports r.next ≡ o → record_refusal r ≡ o
  unfolding record_refusal
  record_action o e f a = ap₂ (λ p q. or_else p (or_else (outside_refusal q) (action_refusal r.table r.ports r.next))) e f ∙ a

  pub add_action : (x : Refusal) → record_refusal r ≡ Some x → add_fault ts r ≡ Some x
  unfolding add_fault
  add_action x e = ap (λ o. or_else o (add_refusal (table_of ts r.table) (rule_of r))) e

  pub add_within : (o : Option Refusal) → record_refusal r ≡ None → add_refusal (table_of ts r.table) (rule_of r) ≡ o → add_fault ts r ≡ o
  unfolding add_fault
  add_within o e f = ap₂ or_else e f

-- an action that is not refused has a good next table
pub action_good : (t ports next : ℕ) → action_refusal t ports next ≡ None → good_next t next ≡ true
action_good t ports next h = grind (arith, nat_tests)
