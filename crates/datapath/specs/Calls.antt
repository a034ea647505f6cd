-- What add, remove and count answer, and what they do to the tables.
use Rattle.std.specs.Prelude.{ℕ, ◌%◌, cond, Some, None, Option, ◌==◌, nat_lt, slice_set}
use Rattle.flow.specs.Masks.{first_outside}
use Rattle.classifier.specs.declared.rule.Rule.{Rule}
use Rattle.classifier.specs.Rules.{new_rule}
use Rattle.classifier.specs.Tables.{Refusal, add_refusal, added, missing_refusal, removed, count_of}
use Rattle.datapath.specs.declared.level.RuleRecord.{RuleRecord}
use Rattle.datapath.specs.Walk.{TablesOf, table_of, good_next}

-- the first refusal that there is
abbrev pub or_else : Option Refusal → Option Refusal → Option Refusal
or_else None r = r
or_else (Some f) r = Some f

-- a table above 3
abbrev pub table_refusal : ℕ → Option Refusal
table_refusal t = cond (nat_lt 3 t) (Some (5, t)) None

-- a value bit outside the mask, named by its first byte
abbrev pub outside_refusal : Option ℕ → Option Refusal
outside_refusal None = None
outside_refusal (Some byte) = Some (6, byte)

-- port bit 0, and then a bad next table
abbrev pub action_refusal : ℕ → ℕ → ℕ → Option Refusal
action_refusal t ports next =
    cond (ports % 2 == 1) (Some (7, 0)) (cond (good_next t next) None (Some (8, next)))

-- why a rule record is refused whatever rules stand
unfoldable pub record_refusal : RuleRecord → Option Refusal
record_refusal r =
    or_else (table_refusal r.table)
    (or_else (outside_refusal (first_outside r.mask r.value)) (action_refusal r.table r.ports r.next))

-- the rule that a record describes
abbrev pub rule_of : RuleRecord → Rule
rule_of r = new_rule r.id r.priority r.mask r.value r.ports r.next

-- why a rule is not added
unfoldable pub add_fault : TablesOf → RuleRecord → Option Refusal
add_fault ts r = or_else (record_refusal r) (add_refusal (table_of ts r.table) (rule_of r))

-- the tables with one rule more
unfoldable pub with_rule : TablesOf → RuleRecord → TablesOf
with_rule ts r = slice_set ts r.table (added (table_of ts r.table) (rule_of r))

-- why a rule is not removed or counted
unfoldable pub missing_fault : TablesOf → ℕ → ℕ → Option Refusal
missing_fault ts t i = or_else (table_refusal t) (missing_refusal (table_of ts t) i)

-- the tables without a rule
unfoldable pub without_rule : TablesOf → ℕ → ℕ → TablesOf
without_rule ts t i = slice_set ts t (removed (table_of ts t) i)

-- a rule's count
unfoldable pub rule_count : TablesOf → ℕ → ℕ → ℕ
rule_count ts t i = count_of (table_of ts t) i
