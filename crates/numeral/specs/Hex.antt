-- Hexadecimal text, over its characters.
use Rattle.std.specs.Prelude.{◌≡◌, ℕ, ◌+◌, ◌-◌, ◌*◌, ◌%◌, cond, ◌&&◌, List, [], ◌∷◌, ◌++◌, length, Some, None, Ok, Err, Option, Result, ◌==◌, nat_le}
use Rattle.numeral.specs.declared.hex.HexFault.{HexFault}
use Rattle.numeral.specs.declared.hex.HexFault.TheVariants.{Memory, Odd, Digit}

-- the value of a hexadecimal digit, of either case
abbrev pub nibble_of : ℕ → Option ℕ
nibble_of b =
    cond (nat_le 48 b && nat_le b 57) (Some (b - 48))
    (cond (nat_le 97 b && nat_le b 102) (Some (b - 87)) (cond (nat_le 65 b && nat_le b 70) (Some (b - 55)) None))

-- a byte from the values of two digits, of which the first stands at a place
abbrev pub pair_of : ℕ → Option ℕ → Option ℕ → Result ℕ HexFault
pair_of at None None = Err (Digit at)
pair_of at None (Some low) = Err (Digit at)
pair_of at (Some high) None = Err (Digit (at + 1))
pair_of at (Some high) (Some low) = Ok (high * 16 + low)

-- goes on with a value, or stops at a fault
abbrev pub and_then : {X Y : Type 0} → Result X HexFault → (X → Result Y HexFault) → Result Y HexFault
and_then (Ok x) go = go x
and_then (Err e) go = Err e

-- the pairs from a place on, behind the bytes that are read
abbrev pub pairs_from : ℕ → List ℕ → List ℕ → Result (List ℕ) HexFault
pairs_from at read [] = Ok read
pairs_from at read (a ∷ []) = Err (Odd (at + 1))
pairs_from at read (a ∷ b ∷ cs) =
    and_then (pair_of at (nibble_of a) (nibble_of b)) (λ x. pairs_from (at + 2) (read ++ x ∷ []) cs)

-- the bytes that a text writes, or what is wrong with it: an odd number of characters is named first
abbrev pub hex_of : List ℕ → Result (List ℕ) HexFault
hex_of t = cond (length t % 2 == 0) (pairs_from 0 [] t) (Err (Odd (length t)))

-- want of memory says nothing of the text; any other refusal is the text's own
abbrev pub Refuses : HexFault → Result (List ℕ) HexFault → Type 0
Refuses Memory r = Unit {0}
Refuses (Odd n) r = r ≡ Err (Odd n)
Refuses (Digit at) r = r ≡ Err (Digit at)
