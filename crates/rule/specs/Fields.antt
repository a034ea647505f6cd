-- The fields of a key as a rule names them.
use Rattle.std.specs.Prelude.{ℕ, ◌+◌, ◌≤◌, cond, List, Some, None, codes, Option}
use Rattle.std.specs.Str.{bytes_eq}
use Rattle.std.proofs.Common.{lit≤}
use Rattle.rule.specs.declared.field.Field.{Field}
use Rattle.rule.specs.declared.field.Form.{Form}
use Rattle.rule.specs.declared.field.Form.TheVariants.{Byte, Word, Quad, Mac}
use Rattle.rule.specs.Forms.{len_of}

-- the field of a form, by its first byte in the key
abbrev pub field : (at : ℕ) (form : Form) → at + len_of form ≤ 36 → Field
field at form inside = record { at = at; form = form; inside = inside }

-- the field of the first of some names that is a name, or what is found behind them
abbrev pub named : List ℕ → List ℕ → Field → Option Field → Option Field
named name this f others = cond (bytes_eq name this) (Some f) others

-- the field of a name
unfoldable pub field_named : List ℕ → Option Field
field_named n =
    named n (codes "in_port") (field 0 Word (lit≤ tt))
    (named n (codes "dl_dst") (field 2 Mac (lit≤ tt))
    (named n (codes "dl_src") (field 8 Mac (lit≤ tt))
    (named n (codes "dl_type") (field 14 Word (lit≤ tt))
    (named n (codes "vlan_tci") (field 16 Word (lit≤ tt))
    (named n (codes "frag") (field 18 Byte (lit≤ tt))
    (named n (codes "nw_proto") (field 19 Byte (lit≤ tt))
    (named n (codes "nw_tos") (field 20 Byte (lit≤ tt))
    (named n (codes "nw_ttl") (field 21 Byte (lit≤ tt))
    (named n (codes "tcp_flags") (field 22 Word (lit≤ tt))
    (named n (codes "nw_src") (field 24 Quad (lit≤ tt))
    (named n (codes "nw_dst") (field 28 Quad (lit≤ tt))
    (named n (codes "tp_src") (field 32 Word (lit≤ tt)) (named n (codes "tp_dst") (field 34 Word (lit≤ tt)) None)))))))))))))
