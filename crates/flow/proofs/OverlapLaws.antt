-- Two masked keys overlap just where their values agree in the bits of both masks.
use Rattle.std.proofs.Common.{◌≡◌, ℕ, true, List, Decides, sym, ap, ◌∙◌, ap₂}
use Rattle.std.proofs.lemmas.Bool.Decides.{same_from_decides, Decides-like}
use Rattle.flow.specs.Masks.{Bytes36, masked, union, Covers, Agree, Within, Overlap, overlapping}
use Rattle.flow.proofs.MaskLaws.{masked_comm, masked_assoc, masked_swap, masked_union, union_masked, union_comm, within_masked, within_key, agree_within, value_agrees, agreeing_decides, bytes_union}

-- a key that both cover: the values agree, since each agrees with the key
pub agree_from_both : (m v n w k : List ℕ) → Covers m v k → Covers n w k → Agree (masked m n) v w
agree_from_both m v n w k c d =
    agree_within (masked m n) m v k (within_masked m n) (value_agrees m v k c) ∙ sym (agree_within (masked m n) n w k (within_key m n) (value_agrees n w k d))

-- the bits of both values make a key that the first covers
pub covers_union : (m v n w : List ℕ) → Within v m → Within w n → Agree (masked m n) v w → Covers m v (union v w)
covers_union m v n w p q e =
    masked_comm m (union v w)
    ∙ masked_union v w m
    ∙ ap₂ union (masked_comm v m ∙ p) (masked_comm w m ∙ common)
    ∙ union_masked v n
  where
    common : masked m w ≡ masked v n
    common =
        ap (masked m) (sym q)
        ∙ sym (masked_assoc m n w)
        ∙ sym e
        ∙ masked_assoc m n v
        ∙ masked_swap m n v
        ∙ ap (masked n) p
        ∙ masked_comm n v

turned : (m v n w : List ℕ) → Agree (masked m n) v w → Agree (masked n m) w v
turned m v n w e = ap (λ x. masked x w) (masked_comm n m) ∙ sym e ∙ ap (λ x. masked x v) (masked_comm m n)

pub overlap_from_agree : (m v n w : List ℕ) → Bytes36 v → Bytes36 w → Within v m → Within w n → Agree (masked m n) v w → Overlap m v n w
overlap_from_agree m v n w kv kw p q e = (
  union v w,
  bytes_union v w kv kw,
  covers_union m v n w p q e,
  ap (masked n) (union_comm v w) ∙ covers_union n w m v q p (turned m v n w e),
)

pub overlapping_decides_agree : (m v n w : List ℕ) → Decides (overlapping m v n w) (Agree (masked m n) v w)
overlapping_decides_agree m v n w = agreeing_decides (masked m n) v w

-- the test is true just where some key is covered by both
pub overlapping_decides : (m v n w : List ℕ) → Bytes36 v → Bytes36 w → Within v m → Within w n → Decides (overlapping m v n w) (Overlap m v n w)
overlapping_decides m v n w kv kw p q = (
  (λ t. overlap_from_agree m v n w kv kw p q ((overlapping_decides_agree m v n w).0 t)),
  λ s. (overlapping_decides_agree m v n w).1 (agree_from_both m v n w s.0 s.2 s.3),
)

-- where one key is covered by both, the test is true
pub overlapping_from_both : (m v n w k : List ℕ) → Covers m v k → Covers n w k → overlapping m v n w ≡ true
overlapping_from_both m v n w k c d = (overlapping_decides_agree m v n w).1 (agree_from_both m v n w k c d)

pub overlap_sym : (m v n w : List ℕ) → Overlap m v n w → Overlap n w m v
overlap_sym m v n w s = (s.0, s.1, s.3, s.2)

pub overlapping_sym : (m v n w : List ℕ) → overlapping m v n w ≡ overlapping n w m v
overlapping_sym m v n w =
    same_from_decides _ _ (overlapping_decides_agree m v n w)
    (Decides-like _ (turned n w m v) (turned m v n w) (overlapping_decides_agree n w m v))
