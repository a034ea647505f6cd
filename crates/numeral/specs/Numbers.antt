-- Numbers as a script writes them, over the bytes of a word.
use Rattle.std.specs.Prelude.{ℕ, ◌^◌, ◌<◌, Bool, true, cond, ◌&&◌, List, [], ◌∷◌, length, drop, Some, None, Option, MatchOption, ◌==◌, nat_lt, slice_index}
use Rattle.std.specs.Option.{SomeIff}
use Rattle.std.specs.Str.Parse.{IsNumeral, digits_value}
use Rattle.std.specs.Char.{digit_value}

-- what follows 0x, where a word begins so
abbrev pub after_0x : List ℕ → Option (List ℕ)
after_0x t = cond (slice_index t 0 == 48 && slice_index t 1 == 120) (Some (drop 2 t)) None

-- r is the number that the digits of t write where it is one of k bits, and none elsewhere:
-- where there is no digit, or a character that is no digit of the radix
abbrev pub Reads : ℕ → ℕ → List ℕ → Option ℕ → Type 0
Reads k radix t r = SomeIff r (IsNumeral radix t × (digits_value radix t < 2 ^ k)) (digits_value radix t)

-- the same of a word, in hexadecimal after 0x and else in decimal
abbrev pub Writes : ℕ → List ℕ → Option ℕ → Type 0
Writes k t r = MatchOption (after_0x t) (Reads k 10 t r) (λ s. Reads k 16 s r)

-- whether each character is a digit of the radix
abbrev pub all_digits : ℕ → List ℕ → Bool
all_digits radix [] = true
all_digits radix (c ∷ cs) = nat_lt (digit_value c) radix && all_digits radix cs

-- the number of 64 bits that the digits of a text write, or none
unfoldable pub read_number : ℕ → List ℕ → Option ℕ
read_number radix t =
    cond ((nat_lt 0 (length t) && all_digits radix t) && nat_lt (digits_value radix t) (2 ^ 64)) (Some (digits_value radix t)) None

-- the same of a word, in hexadecimal after 0x and else in decimal
abbrev pub number_by : List ℕ → Option (List ℕ) → Option ℕ
number_by t None = read_number 10 t
number_by t (Some s) = read_number 16 s

abbrev pub number_of : List ℕ → Option ℕ
number_of t = number_by t (after_0x t)

-- a number where it has k bits
abbrev pub of_bits : ℕ → Option ℕ → Option ℕ
of_bits k None = None
of_bits k (Some n) = cond (nat_lt n (2 ^ k)) (Some n) None
