-- Keys, masks and values, as lists of bytes: a key is 36 bytes, and a mask names some of its bits.
-- Their laws are in proofs/MaskLaws.antt, WholeLaws.antt, OutsideLaws.antt and OverlapLaws.antt: other proofs use
-- those, and open no definition. A name in capitals is a statement, and the one in small letters after it its test.
use Rattle.std.specs.Prelude.{◌≡◌, ℕ, ◌+◌, ◌<◌, Bool, cond, List, [], ◌∷◌, length, replicate, Some, None, Option, ◌==◌, bit_and, bit_or, slice_index}
use Rattle.std.specs.Str.{bytes_eq}

-- 36 bytes: a key, a mask or a value
pub record Bytes36 (xs : List ℕ) : Type 0 where
  pub long : length xs ≡ 36
  pub bytes : (i : ℕ) → slice_index xs i < 256

-- the key's bits under the mask: the bytewise AND
unfoldable pub masked : List ℕ → List ℕ → List ℕ
masked [] k = []
masked (x ∷ m) [] = []
masked (x ∷ m) (y ∷ k) = bit_and x y ∷ masked m k

-- the bits of either mask: the bytewise OR (of lists of two lengths, with what is left of the longer)
unfoldable pub union : List ℕ → List ℕ → List ℕ
union [] b = b
union (x ∷ a) [] = x ∷ a
union (x ∷ a) (y ∷ b) = bit_or x y ∷ union a b

-- the mask with no bit
unfoldable pub empty_mask : List ℕ
empty_mask = replicate 36 0

-- the mask with every bit
unfoldable pub full_mask : List ℕ
full_mask = replicate 36 255

-- the mask and the value cover the key: its bits under the mask are the value
abbrev pub Covers : List ℕ → List ℕ → List ℕ → Type 0
Covers m v k = masked m k ≡ v

unfoldable pub covered : List ℕ → List ℕ → List ℕ → Bool
covered m v k = bytes_eq (masked m k) v

-- the two keys agree in the mask's bits
abbrev pub Agree : List ℕ → List ℕ → List ℕ → Type 0
Agree m k q = masked m k ≡ masked m q

unfoldable pub agreeing : List ℕ → List ℕ → List ℕ → Bool
agreeing m k q = bytes_eq (masked m k) (masked m q)

-- a has no bit outside b: all its bits are left under b
abbrev pub Within : List ℕ → List ℕ → Type 0
Within a b = masked b a ≡ a

abbrev pub inside : List ℕ → List ℕ → Bool
inside a b = covered b a a

-- a place that is counted from one element further on
abbrev pub one_more : Option ℕ → Option ℕ
one_more None = None
one_more (Some i) = Some (i + 1)

-- the first place at which two lists differ
unfoldable pub first_difference : List ℕ → List ℕ → Option ℕ
first_difference [] ys = None
first_difference (x ∷ xs) [] = None
first_difference (x ∷ xs) (y ∷ ys) = cond (x == y) (one_more (first_difference xs ys)) (Some 0)

-- the first byte of the value that has a bit outside the mask
unfoldable pub first_outside : List ℕ → List ℕ → Option ℕ
first_outside m v = first_difference (masked m v) v

-- two masks with their values overlap: some key is covered by both
abbrev pub Overlap : List ℕ → List ℕ → List ℕ → List ℕ → Type 0
Overlap m v n w = (key : List ℕ) × Bytes36 key × Covers m v key × Covers n w key

-- the test of it: the values agree in the bits that both masks have
abbrev pub overlapping : List ℕ → List ℕ → List ℕ → List ℕ → Bool
overlapping m v n w = agreeing (masked m n) v w
