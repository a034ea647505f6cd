-- The masks with no bit and with every bit.
use Rattle.std.proofs.Common.{◌≡◌, ℕ, zero, suc, ◌<◌, List, [], ◌∷◌, length, get_or, replicate, sym, refl, ap, ◌∙◌, ap₂, mod-eq_of_lt, arith}
use lib.Bits.{bit_and, and_comm, and_mask, or_zero_r, and_zero_l}
use Rattle.std.proofs.lemmas.List.{length-replicate, get_or-replicate}
use Rattle.flow.specs.Masks.{Bytes36, masked, union, empty_mask, full_mask, Agree, Within}
use Rattle.flow.proofs.MaskLaws.{masked_comm, union_nil, union_comm}
use Rattle.flow.proofs.Places.{masked_from_places}

union_zeros : (n : ℕ) (a : List ℕ) → length a ≡ n → union a (replicate n 0) ≡ a
unfolding union
union_zeros zero a h = union_nil a
union_zeros (suc n) [] h = absurd (omega arith)
union_zeros (suc n) (x ∷ a) h = ap₂ ◌∷◌ (or_zero_r x) (union_zeros n a (omega arith))

pub union_empty : (a : List ℕ) → length a ≡ 36 → union a empty_mask ≡ a
unfolding empty_mask
union_empty a h = union_zeros 36 a h

pub empty_union : (a : List ℕ) → length a ≡ 36 → union empty_mask a ≡ a
empty_union a h = union_comm empty_mask a ∙ union_empty a h

masked_zeros : (n : ℕ) (k : List ℕ) → length k ≡ n → masked (replicate n 0) k ≡ replicate n 0
unfolding masked
masked_zeros zero k h = refl
masked_zeros (suc n) [] h = absurd (omega arith)
masked_zeros (suc n) (x ∷ k) h = ap₂ ◌∷◌ (and_zero_l x) (masked_zeros n k (omega arith))

pub masked_empty : (k : List ℕ) → length k ≡ 36 → masked empty_mask k ≡ empty_mask
unfolding empty_mask
masked_empty k h = masked_zeros 36 k h

-- any two keys agree in no bit
pub agree_empty : (k q : List ℕ) → length k ≡ 36 → length q ≡ 36 → Agree empty_mask k q
agree_empty k q h l = masked_empty k h ∙ sym (masked_empty q l)

pub within_empty : (a : List ℕ) → length a ≡ 36 → Within empty_mask a
within_empty a h = masked_comm a empty_mask ∙ masked_empty a h

alike_bytes : (n b : ℕ) → b < 256 → (i : ℕ) → get_or (replicate n b) i 0 < 256
alike_bytes zero b h i = omega arith
alike_bytes (suc n) b h zero = h
alike_bytes (suc n) b h (suc i) = alike_bytes n b h i

pub empty_bytes : Bytes36 empty_mask
unfolding empty_mask
empty_bytes = record { long = length-replicate {A = ℕ} 36 0; bytes = alike_bytes 36 0 (omega arith) }

pub full_bytes : Bytes36 full_mask
unfolding full_mask
full_bytes = record { long = length-replicate {A = ℕ} 36 255; bytes = alike_bytes 36 255 (omega arith) }

full_at : (i : ℕ) → i < 36 → get_or full_mask i 0 ≡ 255
unfolding full_mask
full_at i h = get_or-replicate 36 i 255 0 h

byte_whole : (x : ℕ) → x < 256 → bit_and 255 x ≡ x
byte_whole x h = and_comm 255 x ∙ and_mask x 8 ∙ mod-eq_of_lt h

pub masked_full : (k : List ℕ) → Bytes36 k → masked full_mask k ≡ k
masked_full k b =
    sym (masked_from_places 36 full_mask k k full_bytes.long b.long b.long
    (λ i h. sym (ap (λ x. bit_and x (get_or k i 0)) (full_at i h) ∙ byte_whole (get_or k i 0) (b.bytes i))))

-- keys that agree in every bit are one key
pub agree_full : (k q : List ℕ) → Bytes36 k → Bytes36 q → Agree full_mask k q → k ≡ q
agree_full k q b c e = sym (masked_full k b) ∙ e ∙ masked_full q c

pub within_full : (a : List ℕ) → Bytes36 a → Within a full_mask
within_full a b = masked_full a b
