-- A hash of bytes: a weighted sum, and seven bits from its middle.
use Rattle.std.specs.Prelude.{ℕ, zero, suc, ◌+◌, ◌*◌, ◌/◌, ◌%◌, List, [], ◌∷◌, slice_index}

-- f 0 + f 1 + .. + f (n - 1)
unfoldable pub sum_below : (ℕ → ℕ) → ℕ → ℕ
sum_below f zero = 0
sum_below f (suc n) = sum_below f n + f n

-- one weight to a byte
unfoldable pub weights : List ℕ
weights =
    40521 ∷ 45573 ∷ 18875 ∷ 26665 ∷ 46947 ∷ 56891 ∷ 45285 ∷ 47437 ∷ 11755 ∷ 8795 ∷ 53379 ∷ 59825 ∷ 42733 ∷ 9521 ∷ 38089 ∷ 43101 ∷ 47963 ∷ 55765 ∷ 39753 ∷ 7897 ∷ 58125 ∷ 46455 ∷ 55429 ∷ 12007 ∷ 21281 ∷ 13571 ∷ 18377 ∷ 37055 ∷ 47525 ∷ 44611 ∷ 57945 ∷ 6177 ∷ 38409 ∷ 28801 ∷ 13821 ∷ 46045 ∷ []

-- byte i by its weight
abbrev pub products : List ℕ → ℕ → ℕ
products xs i = slice_index xs i * slice_index weights i

-- the bucket of the bytes: seven bits from the middle of the weighted sum
unfoldable pub byte_sum : List ℕ → ℕ
byte_sum xs = sum_below (products xs) 36 / 256 % 128
