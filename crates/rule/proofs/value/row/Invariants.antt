use Rattle.std.proofs.Common.{◌≡◌, ◌*◌, length, take, drop}
use Rattle.rule.specs.Values.{pairs_of}
use Rattle.rule.proofs.RowLaws.{behind}
use Rattle.rule.proofs.value.row.Given as goal

-- the bytes that are read, with those that follow, are what the whole text writes
abbrev pub invariant-loop-i : goal.invariant-loop-i
invariant-loop-i l =
    (length l.row ≡ 36)
    × (behind (take l.i l.row) (pairs_of (drop (2 * l.i) l.text)) ≡ pairs_of l.text)
