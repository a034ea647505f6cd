-- Bytes written over others.
use Rattle.std.specs.Prelude.{ℕ, ◌+◌, List, ◌++◌, length, take, drop}

-- a list with some bytes in place of as many that stood from a place on
abbrev pub put_at : (at : ℕ) (bytes out : List ℕ) → List ℕ
put_at at bytes out = take at out ++ (bytes ++ drop (at + length bytes) out)
