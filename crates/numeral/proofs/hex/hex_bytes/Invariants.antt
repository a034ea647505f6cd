use Rattle.std.proofs.Common.{◌≡◌, ◌*◌, [], drop, vec_items}
use Rattle.numeral.specs.Hex.{pairs_from}
use Rattle.numeral.proofs.hex.hex_bytes.Given as goal

-- the rest of the text leads to what the whole says
abbrev pub invariant-loop-i : goal.invariant-loop-i
invariant-loop-i l = pairs_from (2 * l.i) (vec_items l.out) (drop (2 * l.i) l.text) ≡ pairs_from 0 [] l.text
