-- What the words of a statement say, over the bytes of the words.
use Rattle.std.specs.Prelude.{◌≡◌, ℕ, List, Some, None, Ok, Err, string_bytes, Result}
use Rattle.script.specs.declared.statement.LineFault.{LineFault}
use Rattle.script.specs.declared.statement.LineFault.TheVariants.{Memory, Port, Hex}
use Rattle.numeral.specs.Hex.{hex_of, Refuses}
use Rattle.numeral.specs.Numbers.{Writes}

-- a word that is to be a port: its number of 16 bits, or a fault that repeats the word
abbrev pub SaysPort : List ℕ → Result ℕ LineFault → Type 0
SaysPort w (Ok port) = Writes 16 w (Some port)
SaysPort w (Err Memory) = Unit {0}
SaysPort w (Err (Port s)) = Writes 16 w None × (string_bytes s ≡ w)
SaysPort w (Err _) = ⊥

-- the digits that are to be a frame
abbrev pub SaysFrame : {V : Type 0} → (V → List ℕ) → List ℕ → Result V LineFault → Type 0
SaysFrame items w (Ok frame) = hex_of w ≡ Ok (items frame)
SaysFrame items w (Err Memory) = Unit {0}
SaysFrame items w (Err (Hex e)) = Refuses e (hex_of w)
SaysFrame items w (Err _) = ⊥

-- the word that is to be a path
abbrev pub SaysPath : {V : Type 0} → (V → List ℕ) → List ℕ → Result V LineFault → Type 0
SaysPath bytes w (Ok path) = bytes path ≡ w
SaysPath bytes w (Err Memory) = Unit {0}
SaysPath bytes w (Err _) = ⊥
