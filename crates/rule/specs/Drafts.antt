-- What a draft of a rule holds after a word NAME=VALUE, and the rule that it says.
use Rattle.std.specs.Prelude.{◌≡◌, ℕ, ◌^◌, cond, List, replicate, Some, None, Ok, Err, codes, Option, Result, ◌==◌, bit_and, bit_or, unwrap_or}
use Rattle.std.specs.Str.{bytes_eq}
use Rattle.numeral.specs.Numbers.{number_of, of_bits}
use Rattle.datapath.specs.declared.level.RuleRecord.{RuleRecord}
use Rattle.rule.specs.declared.draft.Draft.{Draft}
use Rattle.datapath.specs.declared.level.RuleName.{RuleName}
use Rattle.rule.specs.declared.draft.WordFault.{WordFault}
use Rattle.rule.specs.declared.draft.WordFault.TheVariants.{Shape, Unknown, Twice, Table, Id, Priority, Next, Ports, Bytes, Value, Mask}
use Rattle.rule.specs.declared.draft.DraftFault.{DraftFault}
use Rattle.rule.specs.declared.draft.DraftFault.TheVariants.{Table as LacksTable, Id as LacksId, Mask as LacksMask, Value as LacksValue, Mixed}
use Rattle.rule.specs.declared.field.Field.{Field}
use Rattle.rule.specs.declared.rows.FieldFault.{FieldFault}
use Rattle.rule.specs.declared.rows.FieldFault.TheVariants.{Unknown as NoField, Value as NoValue, Mask as NoMask}
use Rattle.rule.specs.declared.rows.Rows.{Rows}
use Rattle.rule.specs.Fields.{field_named}
use Rattle.rule.specs.Ports.{ports_of}
use Rattle.rule.specs.Rows.{set_answer, rows_after}
use Rattle.rule.specs.Values.{row_of}

-- r answers what is made of a value, which is kept where it is refused
abbrev pub Turns : {S : Type 0} → S → S → Result (Unit {0}) WordFault → Result S WordFault → Type 0
Turns d e (Ok x) made = made ≡ Ok e
Turns d e (Err fault) made = (made ≡ Err fault) × (e ≡ d)

-- a name may stand once, and its value must be there
abbrev pub stored : {X : Type 0} → Option X → WordFault → Option X → Result (Option X) WordFault
stored (Some y) fault said = Err Twice
stored None fault None = Err fault
stored None fault (Some x) = Ok (Some x)

-- what is made with one part of a draft
abbrev pub with_part : {X : Type 0} → (X → Draft) → Result X WordFault → Result Draft WordFault
with_part f (Ok x) = Ok (f x)
with_part f (Err e) = Err e

-- the word table=
abbrev pub table_word : Draft → List ℕ → Result Draft WordFault
table_word d t = with_part (λ o. record d { table = o }) (stored d.table Table (of_bits 32 (number_of t)))

-- the word id=
abbrev pub id_word : Draft → List ℕ → Result Draft WordFault
id_word d t = with_part (λ o. record d { id = o }) (stored d.id Id (of_bits 32 (number_of t)))

-- the word priority=
abbrev pub priority_word : Draft → List ℕ → Result Draft WordFault
priority_word d t = with_part (λ o. record d { priority = o }) (stored d.priority Priority (of_bits 16 (number_of t)))

-- the word next=
abbrev pub next_word : Draft → List ℕ → Result Draft WordFault
next_word d t = with_part (λ o. record d { next = o }) (stored d.next Next (of_bits 16 (number_of t)))

-- the word ports=
abbrev pub ports_word : Draft → List ℕ → Result Draft WordFault
ports_word d t = with_part (λ o. record d { ports = o }) (stored d.ports Ports (ports_of t))

-- the words mask= and value=
abbrev pub mask_word : Draft → List ℕ → Result Draft WordFault
mask_word d t = with_part (λ o. record d { mask = o }) (stored d.mask Bytes (row_of t))

abbrev pub value_word : Draft → List ℕ → Result Draft WordFault
value_word d t = with_part (λ o. record d { value = o }) (stored d.value Bytes (row_of t))

-- the fault of a field's text as one of its word
abbrev pub fault_of : FieldFault → WordFault
fault_of NoField = Unknown
fault_of NoValue = Value
fault_of NoMask = Mask

-- a field's mask and value in their rows, where it did not stand before; its bit is that of its first byte in the key
abbrev pub field_by : Draft → Result Field FieldFault → Rows → Result Draft WordFault
field_by d (Err e) rows = Err (fault_of e)
field_by d (Ok f) rows =
    cond (bit_and d.fields (2 ^ f.at) == 0) (Ok (record d { rows = rows; fields = bit_or d.fields (2 ^ f.at) })) (Err Twice)

-- the word of a field
abbrev pub field_word : Draft → List ℕ → List ℕ → Result Draft WordFault
field_word d name t = field_by d (set_answer (field_named name) t) (rows_after (field_named name) t d.rows)

-- a draft without a word
abbrev pub blank_draft : Draft
blank_draft =
    record {
      table = None;
      id = None;
      priority = None;
      next = None;
      ports = None;
      mask = None;
      value = None;
      rows = record { mask = replicate 36 0; value = replicate 36 0 };
      fields = 0;
    }

-- a word of `remove` or `count`, which only name a rule
abbrev pub name_word : Draft → Option (List ℕ × List ℕ) → Result Draft WordFault
name_word d None = Err Shape
name_word d (Some p) =
    cond (bytes_eq p.0 (codes "table")) (table_word d p.1)
    (cond (bytes_eq p.0 (codes "id")) (id_word d p.1) (Err Unknown))

-- the word of a name: one of those of a rule, or else a field's
unfoldable pub word_by : Draft → List ℕ → List ℕ → Result Draft WordFault
word_by d n t =
    cond (bytes_eq n (codes "table")) (table_word d t)
    (cond (bytes_eq n (codes "id")) (id_word d t)
    (cond (bytes_eq n (codes "priority")) (priority_word d t)
    (cond (bytes_eq n (codes "next")) (next_word d t)
    (cond (bytes_eq n (codes "ports")) (ports_word d t)
    (cond (bytes_eq n (codes "mask")) (mask_word d t)
    (cond (bytes_eq n (codes "value")) (value_word d t) (field_word d n t)))))))

-- a word of `add`
abbrev pub add_word : Draft → Option (List ℕ × List ℕ) → Result Draft WordFault
add_word d None = Err Shape
add_word d (Some p) = word_by d p.0 p.1

-- the rule's name, or what is missing of it
abbrev pub named_by : Option ℕ → Option ℕ → Result RuleName DraftFault
named_by None id = Err LacksTable
named_by (Some table) None = Err LacksId
named_by (Some table) (Some id) = Ok (record { table = table; id = id })

abbrev pub name_of : Draft → Result RuleName DraftFault
name_of d = named_by d.table d.id

-- the bytes of mask and value, which stand together and beside no field, or else what the fields write
abbrev pub key_by : Option (List ℕ) → Option (List ℕ) → ℕ → Rows → Result Rows DraftFault
key_by None None fields rows = Ok rows
key_by (Some mask) None fields rows = Err LacksValue
key_by None (Some value) fields rows = Err LacksMask
key_by (Some mask) (Some value) fields rows = cond (fields == 0) (Ok (record { mask = mask; value = value })) (Err Mixed)

abbrev pub key_of : Draft → Result Rows DraftFault
key_of d = key_by d.mask d.value d.fields d.rows

-- the rule that a draft says, or the first that is missing, or that does not go together; what is left out is 0
abbrev pub ruled : Draft → Result RuleName DraftFault → Result Rows DraftFault → Result RuleRecord DraftFault
ruled d (Err e) key = Err e
ruled d (Ok name) (Err e) = Err e
ruled d (Ok name) (Ok key) =
    Ok
    (record {
      table = name.table;
      id = name.id;
      priority = unwrap_or d.priority 0;
      mask = key.mask;
      value = key.value;
      ports = unwrap_or d.ports 0;
      next = unwrap_or d.next 0;
    })

abbrev pub rule_of : Draft → Result RuleRecord DraftFault
rule_of d = ruled d (name_of d) (key_of d)
