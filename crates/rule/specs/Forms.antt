-- The forms of fields.
use Rattle.std.specs.Prelude.{ℕ, ◌-◌, ◌*◌, ◌^◌}
use Rattle.rule.specs.declared.field.Form.{Form}
use Rattle.rule.specs.declared.field.Form.TheVariants.{Byte, Word, Quad, Mac}

-- how many bytes a field has
abbrev pub len_of : Form → ℕ
len_of Byte = 1
len_of Word = 2
len_of Quad = 4
len_of Mac = 6

-- the largest number that they hold
abbrev pub full_of : Form → ℕ
full_of form = 2 ^ (8 * len_of form) - 1
