-- What a word FIELD=VALUE or FIELD=VALUE/MASK writes into the bytes of a mask and of a value.
use Rattle.std.specs.Prelude.{ℕ, ◌+◌, ◌-◌, ◌/◌, ◌%◌, List, [], ◌∷◌, ◌++◌, length, take, drop, Some, None, Ok, Err, Option, Result}
use Rattle.rule.specs.declared.field.Field.{Field}
use Rattle.rule.specs.declared.field.Form.{Form}
use Rattle.rule.specs.declared.rows.FieldFault.{FieldFault}
use Rattle.rule.specs.declared.rows.FieldFault.TheVariants.{Unknown, Value, Mask}
use Rattle.rule.specs.declared.rows.Rows.{Rows}
use Rattle.rule.specs.Forms.{len_of, full_of}
use Rattle.rule.specs.Parts.{cut_at}
use Rattle.rule.specs.Values.{value_of, mask_of, up_to}

-- some bytes at a place of a row; the rest stays
abbrev pub placed : ℕ → List ℕ → List ℕ → List ℕ
placed at bytes row = take at row ++ (bytes ++ drop (at + length bytes) row)

-- the eight bytes of a number, the most significant first
abbrev pub eight_bytes : ℕ → List ℕ
eight_bytes n =
    (n / 72057594037927936 % 256) ∷ (n / 281474976710656 % 256) ∷ (n / 1099511627776 % 256) ∷ (n / 4294967296 % 256)
    ∷ (n / 16777216 % 256) ∷ (n / 65536 % 256) ∷ (n / 256 % 256) ∷ (n % 256) ∷ []

-- a row with a field's number, as the last of its eight bytes
unfoldable pub with_number : Field → ℕ → List ℕ → List ℕ
with_number f n row = placed f.at (drop (8 - len_of f.form) (eight_bytes n)) row

-- the value stands before the slash, or is the whole text
abbrev pub value_by : Form → List ℕ → Option (List ℕ × List ℕ) → Option ℕ
value_by form t None = up_to (full_of form) (value_of form t)
value_by form t (Some p) = up_to (full_of form) (value_of form p.0)

-- the mask stands behind it, or has all bits of the field
abbrev pub mask_by : Form → Option (List ℕ × List ℕ) → Option ℕ
mask_by form None = Some (full_of form)
mask_by form (Some p) = up_to (full_of form) (mask_of form p.1)

-- the value and the mask where both are there, or what is wrong
abbrev pub judged : Option ℕ → Option ℕ → Result (ℕ × ℕ) FieldFault
judged None m = Err Value
judged (Some v) None = Err Mask
judged (Some v) (Some m) = Ok (v, m)

-- what a text says of a field of a form
unfoldable pub said : Form → List ℕ → Result (ℕ × ℕ) FieldFault
said form t = judged (value_by form t (cut_at 47 t)) (mask_by form (cut_at 47 t))

-- the field where its text is taken
abbrev pub taken : Field → Result (ℕ × ℕ) FieldFault → Result Field FieldFault
taken f (Err e) = Err e
taken f (Ok p) = Ok f

-- the rows with the two numbers where both are there
abbrev pub put : Field → Result (ℕ × ℕ) FieldFault → Rows → Rows
put f (Err e) rows = rows
put f (Ok p) rows = record { mask = with_number f p.1 rows.mask; value = with_number f p.0 rows.value }

-- the same for the field of a name, if there is one
abbrev pub set_answer : Option Field → List ℕ → Result Field FieldFault
set_answer None t = Err Unknown
set_answer (Some f) t = taken f (said f.form t)

abbrev pub rows_after : Option Field → List ℕ → Rows → Rows
rows_after None t rows = rows
rows_after (Some f) t rows = put f (said f.form t) rows
