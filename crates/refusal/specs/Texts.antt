-- A refusal as text.
use Rattle.std.specs.Prelude.{ℕ, List, ◌++◌, codes, decimal}

-- a refusal's number, and its detail in brackets
abbrev pub refusal_text : ℕ → ℕ → List ℕ
refusal_text number detail = codes "refused " ++ decimal number ++ codes " (" ++ decimal detail ++ codes ")"
