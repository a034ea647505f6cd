-- A number and its bytes.
use Rattle.std.proofs.Common.{◌≡◌, ℕ, ◌/◌, ◌%◌, ◌<◌, List, [], ◌∷◌, ap, ◌∙◌, arith}
use Rattle.packet.specs.Frames.{bytes16}

-- the bytes that `to_be_bytes` gives of a number that fits
pub two : (x : ℕ) (r : List ℕ) → x < 65536 → r ≡ x / 256 % 256 ∷ x % 256 ∷ [] → r ≡ bytes16 x
two x r h e = let q : x / 256 % 256 ≡ x / 256 = omega arith in e ∙ ap (λ n. n ∷ x % 256 ∷ []) q
