-- The laws of masked keys: what the crates above use in place of the definitions.
use Rattle.std.proofs.Common.{◌≡◌, ℕ, zero, suc, List, [], ◌∷◌, length, get_or, Decides, sym, refl, ap, ◌∙◌, ap₂, arith}
use lib.Bits.{bit_and, bit_or, and_comm, or_comm, and_self, or_self, and_zero_r, or_zero_r, and_lt, or_lt}
use Rattle.std.proofs.lemmas.Slice.Eq.{bytes_eq-Decides}
use Rattle.flow.specs.Masks.{Bytes36, masked, union, Covers, covered, Agree, agreeing, Within, inside}
use Rattle.flow.proofs.BitLaws.{and_assoc, or_assoc, and_or, or_and_absorb, or_and_self}

-- AND and OR of lists ----------------------------------------------------------------------------------

pub masked_nil : (a : List ℕ) → masked a [] ≡ []
unfolding masked
masked_nil [] = refl
masked_nil (x ∷ a) = refl

pub masked_comm : (a b : List ℕ) → masked a b ≡ masked b a
unfolding masked
masked_comm [] b = sym (masked_nil b)
masked_comm (x ∷ a) [] = refl
masked_comm (x ∷ a) (y ∷ b) = ap₂ ◌∷◌ (and_comm x y) (masked_comm a b)

pub masked_assoc : (a b c : List ℕ) → masked (masked a b) c ≡ masked a (masked b c)
unfolding masked
masked_assoc [] b c = refl
masked_assoc (x ∷ a) [] c = refl
masked_assoc (x ∷ a) (y ∷ b) [] = refl
masked_assoc (x ∷ a) (y ∷ b) (z ∷ c) = ap₂ ◌∷◌ (and_assoc x y z) (masked_assoc a b c)

pub masked_self : (a : List ℕ) → masked a a ≡ a
unfolding masked
masked_self [] = refl
masked_self (x ∷ a) = ap₂ ◌∷◌ (and_self x) (masked_self a)

-- the order of two masks does not matter
pub masked_swap : (a b c : List ℕ) → masked a (masked b c) ≡ masked b (masked a c)
masked_swap a b c = sym (masked_assoc a b c) ∙ ap (λ x. masked x c) (masked_comm a b) ∙ masked_assoc b a c

pub union_nil : (a : List ℕ) → union a [] ≡ a
unfolding union
union_nil [] = refl
union_nil (x ∷ a) = refl

pub union_comm : (a b : List ℕ) → union a b ≡ union b a
unfolding union
union_comm [] b = sym (union_nil b)
union_comm (x ∷ a) [] = refl
union_comm (x ∷ a) (y ∷ b) = ap₂ ◌∷◌ (or_comm x y) (union_comm a b)

pub union_assoc : (a b c : List ℕ) → union (union a b) c ≡ union a (union b c)
unfolding union
union_assoc [] b c = refl
union_assoc (x ∷ a) [] c = refl
union_assoc (x ∷ a) (y ∷ b) [] = refl
union_assoc (x ∷ a) (y ∷ b) (z ∷ c) = ap₂ ◌∷◌ (or_assoc x y z) (union_assoc a b c)

pub union_self : (a : List ℕ) → union a a ≡ a
unfolding union
union_self [] = refl
union_self (x ∷ a) = ap₂ ◌∷◌ (or_self x) (union_self a)

pub masked_union : (a b c : List ℕ) → masked (union a b) c ≡ union (masked a c) (masked b c)
unfolding masked union
masked_union [] b c = refl
masked_union (x ∷ a) [] c = sym (union_nil (masked (x ∷ a) c))
masked_union (x ∷ a) (y ∷ b) [] = refl
masked_union (x ∷ a) (y ∷ b) (z ∷ c) = ap₂ ◌∷◌ (and_or x y z) (masked_union a b c)

-- bits of a value added to it change nothing
pub union_masked : (a b : List ℕ) → union a (masked a b) ≡ a
unfolding masked union
union_masked [] b = refl
union_masked (x ∷ a) [] = refl
union_masked (x ∷ a) (y ∷ b) = ap₂ ◌∷◌ (or_and_absorb x y) (union_masked a b)

-- no bit outside -----------------------------------------------------------------------------------------

pub within_refl : (a : List ℕ) → Within a a
within_refl a = masked_self a

pub within_trans : (a b c : List ℕ) → Within a b → Within b c → Within a c
within_trans a b c p q = ap (masked c) (sym p) ∙ sym (masked_assoc c b a) ∙ ap (λ x. masked x a) q ∙ p

pub within_left : (a b : List ℕ) → Within a (union a b)
unfolding masked union
within_left [] b = masked_nil b
within_left (x ∷ a) [] = masked_self (x ∷ a)
within_left (x ∷ a) (y ∷ b) = ap₂ ◌∷◌ (or_and_self x y) (within_left a b)

pub within_right : (a b : List ℕ) → Within b (union a b)
within_right a b = ap (λ x. masked x b) (union_comm a b) ∙ within_left b a

pub within_union : (a b c : List ℕ) → Within a c → Within b c → Within (union a b) c
within_union a b c p q =
    masked_comm c (union a b) ∙ masked_union a b c ∙ ap₂ union (masked_comm a c ∙ p) (masked_comm b c ∙ q)

-- what is left under a mask lies in it
pub within_masked : (m k : List ℕ) → Within (masked m k) m
within_masked m k = sym (masked_assoc m m k) ∙ ap (λ x. masked x k) (masked_self m)

-- and in the key
pub within_key : (m k : List ℕ) → Within (masked m k) k
within_key m k = ap (masked k) (masked_comm m k) ∙ within_masked k m ∙ masked_comm k m

-- agreement in a mask's bits -----------------------------------------------------------------------------

pub agree_refl : (m k : List ℕ) → Agree m k k
agree_refl m k = refl

pub agree_sym : (m k q : List ℕ) → Agree m k q → Agree m q k
agree_sym m k q e = sym e

pub agree_trans : (m k q r : List ℕ) → Agree m k q → Agree m q r → Agree m k r
agree_trans m k q r e f = e ∙ f

pub agree_within : (a b k q : List ℕ) → Within a b → Agree b k q → Agree a k q
agree_within a b k q w e = through k ∙ ap (masked a) e ∙ sym (through q)
  where
    through : (x : List ℕ) → masked a x ≡ masked a (masked b x)
    through x = ap (λ y. masked y x) (sym w ∙ masked_comm b a) ∙ masked_assoc a b x

pub agree_left : (a b k q : List ℕ) → Agree (union a b) k q → Agree a k q
agree_left a b k q e = agree_within a (union a b) k q (within_left a b) e

pub agree_right : (a b k q : List ℕ) → Agree (union a b) k q → Agree b k q
agree_right a b k q e = agree_within b (union a b) k q (within_right a b) e

pub agree_union : (a b k q : List ℕ) → Agree a k q → Agree b k q → Agree (union a b) k q
agree_union a b k q e f = masked_union a b k ∙ ap₂ union e f ∙ sym (masked_union a b q)

-- a key agrees with its bits under the mask
pub agree_masked : (m k : List ℕ) → Agree m (masked m k) k
agree_masked m k = within_masked m k

-- covering -----------------------------------------------------------------------------------------------

-- a key is covered by its own bits under the mask
pub covers_own : (m k : List ℕ) → Covers m (masked m k) k
covers_own m k = refl

-- and so are those bits
pub covers_masked : (m k : List ℕ) → Covers m (masked m k) (masked m k)
covers_masked m k = within_masked m k

pub covers_alike : (m v k q : List ℕ) → Covers m v k → Agree m k q → Covers m v q
covers_alike m v k q c e = sym e ∙ c

-- two keys that are covered agree
pub covers_agree : (m v k q : List ℕ) → Covers m v k → Covers m v q → Agree m k q
covers_agree m v k q c d = c ∙ sym d

-- the value, taken as a key, agrees with each key that is covered
pub value_agrees : (m v k : List ℕ) → Covers m v k → Agree m v k
value_agrees m v k c = ap (masked m) (sym c) ∙ agree_masked m k

-- a value that covers some key has no bit outside the mask
pub value_within : (m v k : List ℕ) → Covers m v k → Within v m
value_within m v k c = value_agrees m v k c ∙ c

-- tests --------------------------------------------------------------------------------------------------

pub covered_decides : (m v k : List ℕ) → Decides (covered m v k) (Covers m v k)
unfolding covered
covered_decides m v k = bytes_eq-Decides (masked m k) v

pub agreeing_decides : (m k q : List ℕ) → Decides (agreeing m k q) (Agree m k q)
unfolding agreeing
agreeing_decides m k q = bytes_eq-Decides (masked m k) (masked m q)

pub inside_decides : (a b : List ℕ) → Decides (inside a b) (Within a b)
inside_decides a b = covered_decides b a a

-- lengths and bytes --------------------------------------------------------------------------------------

pub length_masked : (n : ℕ) (m k : List ℕ) → length m ≡ n → length k ≡ n → length (masked m k) ≡ n
unfolding masked
length_masked n [] k p q = p
length_masked n (x ∷ m) [] p q = q
length_masked zero (x ∷ m) (y ∷ k) p q = absurd (omega arith)
length_masked (suc n) (x ∷ m) (y ∷ k) p q = ap suc (length_masked n m k (omega arith) (omega arith))

pub length_union : (n : ℕ) (a b : List ℕ) → length a ≡ n → length b ≡ n → length (union a b) ≡ n
unfolding union
length_union n [] b p q = q
length_union n (x ∷ a) [] p q = p
length_union zero (x ∷ a) (y ∷ b) p q = absurd (omega arith)
length_union (suc n) (x ∷ a) (y ∷ b) p q = ap suc (length_union n a b (omega arith) (omega arith))

pub masked_at : (m k : List ℕ) (i : ℕ) → get_or (masked m k) i 0 ≡ bit_and (get_or m i 0) (get_or k i 0)
unfolding masked
masked_at [] k i = refl
masked_at (x ∷ m) [] i = sym (and_zero_r (get_or (x ∷ m) i 0))
masked_at (x ∷ m) (y ∷ k) zero = refl
masked_at (x ∷ m) (y ∷ k) (suc i) = masked_at m k i

pub union_at : (a b : List ℕ) (i : ℕ) → get_or (union a b) i 0 ≡ bit_or (get_or a i 0) (get_or b i 0)
unfolding union
union_at [] b i = refl
union_at (x ∷ a) [] i = sym (or_zero_r (get_or (x ∷ a) i 0))
union_at (x ∷ a) (y ∷ b) zero = refl
union_at (x ∷ a) (y ∷ b) (suc i) = union_at a b i

pub bytes_masked : (m k : List ℕ) → Bytes36 m → Bytes36 k → Bytes36 (masked m k)
bytes_masked m k p q =
    record {
      long = length_masked 36 m k p.long q.long;
      bytes = λ i. rw masked_at (and_lt 8 (get_or m i 0) (get_or k i 0) (p.bytes i) (q.bytes i));
    }

pub bytes_union : (a b : List ℕ) → Bytes36 a → Bytes36 b → Bytes36 (union a b)
bytes_union a b p q =
    record {
      long = length_union 36 a b p.long q.long;
      bytes = λ i. rw union_at (or_lt 8 (get_or a i 0) (get_or b i 0) (p.bytes i) (q.bytes i));
    }
