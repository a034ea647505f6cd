-- The values and masks of fields as a rule writes them, as numbers.
use Rattle.std.specs.Prelude.{ℕ, ◌+◌, ◌-◌, ◌*◌, ◌/◌, ◌%◌, ◌^◌, Bool, cond, ◌&&◌, List, [], ◌∷◌, length, Some, None, Option, ◌==◌, nat_le, slice_index}
use Rattle.numeral.specs.Hex.{nibble_of}
use Rattle.numeral.specs.Numbers.{number_of, of_bits}
use Rattle.rule.specs.declared.field.Form.{Form}
use Rattle.rule.specs.declared.field.Form.TheVariants.{Byte, Word, Quad, Mac}
use Rattle.rule.specs.Parts.{cut_at}

-- a number of 64 bits with one byte more at its end
abbrev pub pushed : Option ℕ → Option ℕ → Option ℕ
pushed None b = None
pushed (Some n) None = None
pushed (Some n) (Some b) = Some (n * 256 % 2 ^ 64 + b)

-- a byte from the values of two hexadecimal digits
abbrev pub paired : Option ℕ → Option ℕ → Option ℕ
paired None low = None
paired (Some high) None = None
paired (Some high) (Some low) = Some (high * 16 + low)

-- the byte that the two characters at a place write
abbrev pub pair_at : List ℕ → ℕ → Option ℕ
pair_at t i = paired (nibble_of (slice_index t i)) (nibble_of (slice_index t (i + 1)))

-- 17 characters, with colons behind each second digit
abbrev pub mac_shape : List ℕ → Bool
mac_shape t =
    (length t == 17)
    && (slice_index t 2 == 58 && (slice_index t 5 == 58 && (slice_index t 8 == 58 && (slice_index t 11 == 58 && slice_index t 14 == 58))))

-- six bytes as 02:00:00:00:00:01
abbrev pub mac_of : List ℕ → Option ℕ
mac_of t =
    cond (mac_shape t)
    (pushed (pushed (pushed (pushed (pushed (pushed (Some 0) (pair_at t 0)) (pair_at t 3)) (pair_at t 6)) (pair_at t 9)) (pair_at t 12)) (pair_at t 15))
    None

-- a word's number of a byte
abbrev pub byte_of : List ℕ → Option ℕ
byte_of w = of_bits 8 (number_of w)

-- what two pieces of a text give, or none where it is not cut
abbrev pub with_cut : Option (List ℕ × List ℕ) → (List ℕ → List ℕ → Option ℕ) → Option ℕ
with_cut None f = None
with_cut (Some p) f = f p.0 p.1

-- the number of four bytes that words write
abbrev pub four_of : List ℕ → List ℕ → List ℕ → List ℕ → Option ℕ
four_of a b c d = pushed (pushed (pushed (pushed (Some 0) (byte_of a)) (byte_of b)) (byte_of c)) (byte_of d)

-- four bytes as 10.0.0.1
abbrev pub quad_of : List ℕ → Option ℕ
quad_of t =
    with_cut (cut_at 46 t) (λ a r. with_cut (cut_at 46 r) (λ b s. with_cut (cut_at 46 s) (λ c d. four_of a b c d)))

-- the value that a text writes in a form
abbrev pub value_of : Form → List ℕ → Option ℕ
value_of Byte t = number_of t
value_of Word t = number_of t
value_of Quad t = quad_of t
value_of Mac t = mac_of t

-- a mask of 32 bits whose first so many are set
abbrev pub prefix_of : ℕ → Option ℕ
prefix_of bits = cond (nat_le bits 32) (Some (4294967295 - 4294967295 / 2 ^ bits)) None

-- a prefix's length, or else four bytes
abbrev pub prefix_or_quad : Option ℕ → List ℕ → Option ℕ
prefix_or_quad (Some bits) t = prefix_of bits
prefix_or_quad None t = quad_of t

-- the mask that a text writes: for an address of IPv4 the length of a prefix too
abbrev pub mask_of : Form → List ℕ → Option ℕ
mask_of Byte t = number_of t
mask_of Word t = number_of t
mask_of Quad t = prefix_or_quad (number_of t) t
mask_of Mac t = mac_of t

-- a number where it is not above the largest
abbrev pub up_to : ℕ → Option ℕ → Option ℕ
up_to full None = None
up_to full (Some n) = cond (nat_le n full) (Some n) None

-- one byte in front of the others
abbrev pub in_front : Option ℕ → Option (List ℕ) → Option (List ℕ)
in_front None rest = None
in_front (Some x) None = None
in_front (Some x) (Some xs) = Some (x ∷ xs)

-- the bytes that pairs of hexadecimal digits write
unfoldable pub pairs_of : List ℕ → Option (List ℕ)
pairs_of [] = Some []
pairs_of (a ∷ []) = None
pairs_of (a ∷ b ∷ cs) = in_front (paired (nibble_of a) (nibble_of b)) (pairs_of cs)

-- 36 bytes of 72 digits
abbrev pub row_of : List ℕ → Option (List ℕ)
row_of t = cond (length t == 72) (pairs_of t) None
