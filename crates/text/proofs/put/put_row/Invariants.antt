use Rattle.std.proofs.Common.{◌+◌, ◌*◌, ◌≤◌, take, vec_items, vec_len, vec_capacity}
use Rattle.text.specs.Texts.{Appended, bytes_text}
use Rattle.text.proofs.put.put_row.Given as goal

abbrev pub invariant-loop-byte : goal.invariant-loop-byte
invariant-loop-byte l =
    Appended (vec_items l.initial.out) (vec_items l.out) (bytes_text (take l.byte-index l.row))
    × (vec_len l.out ≤ vec_len l.initial.out + 2 * l.byte-index) × (vec_capacity l.initial.out ≤ vec_capacity l.out)
