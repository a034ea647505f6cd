-- The definitions by places: what a loop over the 36 bytes shows.
use Rattle.std.proofs.Common.{◌≡◌, ℕ, ◌<◌, eqb, List, [], ◌∷◌, length, get_or, zip, Decides, sym, refl, ◌∙◌, ap₂, arith}
use lib.Bits.{bit_and, bit_or, bit_xor}
use Rattle.std.specs.List.{AllByRecursion, fold}
use Rattle.std.proofs.lemmas.List.{ext_get_or}
use Rattle.std.proofs.lemmas.Bool.{eq-eqb, eqb-true}
use Rattle.flow.specs.Masks.{masked, union, Covers, Agree}
use Rattle.flow.proofs.BitLaws.{or_none, same_from_xor, xor_same}
use Rattle.flow.proofs.MaskLaws.{masked_at, union_at, length_masked, length_union}

-- a list is the AND of two, where each place is
pub masked_from_places : (n : ℕ) (m k v : List ℕ) → length m ≡ n → length k ≡ n → length v ≡ n → ((i : ℕ) → i < n → get_or v i 0 ≡ bit_and (get_or m i 0) (get_or k i 0)) → v ≡ masked m k
masked_from_places n m k v lm lk lv h =
    ext_get_or 0 v (masked m k) (lv ∙ sym (length_masked n m k lm lk)) (λ i l. h i (omega arith) ∙ sym (masked_at m k i))

pub union_from_places : (n : ℕ) (a b v : List ℕ) → length a ≡ n → length b ≡ n → length v ≡ n → ((i : ℕ) → i < n → get_or v i 0 ≡ bit_or (get_or a i 0) (get_or b i 0)) → v ≡ union a b
union_from_places n a b v la lb lv h =
    ext_get_or 0 v (union a b) (lv ∙ sym (length_union n a b la lb)) (λ i l. h i (omega arith) ∙ sym (union_at a b i))

-- bits that are gathered are none where each element gives none
pub gathers_none : {X : Type 0} (f : X → ℕ) (d : ℕ) (xs : List X) → fold (λ e x. bit_or e (f x)) d xs ≡ 0 → (d ≡ 0) × AllByRecursion (λ x. f x ≡ 0) xs
gathers_none f d [] e = (e, tt)
gathers_none f d (x ∷ xs) e =
    let r = gathers_none f (bit_or d (f x)) xs e in
    let p = or_none d (f x) r.0 in
    (p.0, (p.1, r.1))

pub gathers_zero : {X : Type 0} (f : X → ℕ) (d : ℕ) (xs : List X) → d ≡ 0 → AllByRecursion (λ x. f x ≡ 0) xs → fold (λ e x. bit_or e (f x)) d xs ≡ 0
gathers_zero f d [] e h = e
gathers_zero f d (x ∷ xs) e h = gathers_zero f (bit_or d (f x)) xs (ap₂ bit_or e h.0) h.1

-- the bits in which a byte of a key differs from the value's, under the mask
abbrev pub apart : (ℕ × ℕ) × ℕ → ℕ
apart p = bit_xor (bit_and p.0.0 p.1) p.0.1

covers_from : (m v k : List ℕ) → length m ≡ length v → length v ≡ length k → AllByRecursion (λ p. apart p ≡ 0) (zip (zip m v) k) → masked m k ≡ v
unfolding masked
covers_from [] [] k l n h = refl
covers_from [] (y ∷ v) k l n h = absurd (omega arith)
covers_from (x ∷ m) [] k l n h = absurd (omega arith)
covers_from (x ∷ m) (y ∷ v) [] l n h = absurd (omega arith)
covers_from (x ∷ m) (y ∷ v) (z ∷ k) l n h =
    ap₂ ◌∷◌ (same_from_xor (bit_and x z) y h.0) (covers_from m v k (omega arith) (omega arith) h.1)

covers_back : (m v k : List ℕ) → length m ≡ length v → length v ≡ length k → masked m k ≡ v → AllByRecursion (λ p. apart p ≡ 0) (zip (zip m v) k)
unfolding masked
covers_back [] [] k l n e = tt
covers_back [] (y ∷ v) k l n e = tt
covers_back (x ∷ m) [] k l n e = tt
covers_back (x ∷ m) (y ∷ v) [] l n e = tt
covers_back (x ∷ m) (y ∷ v) (z ∷ k) l n e =
    let here : bit_and x z ≡ y = cc in
    let rest : masked m k ≡ v = cc in
    (xor_same (bit_and x z) y here, covers_back m v k (omega arith) (omega arith) rest)

-- covering, by the bits that are gathered
pub covers_gathered : (m v k : List ℕ) (d : ℕ) → length m ≡ length v → length v ≡ length k → d ≡ fold (λ e p. bit_or e (apart p)) 0 (zip (zip m v) k) → Decides (eqb d 0) (Covers m v k)
covers_gathered m v k d l n e = (
  λ t. covers_from m v k l n (gathers_none apart 0 (zip (zip m v) k) (sym e ∙ eqb-true d 0 t)).1,
  λ c. eq-eqb d 0 (e ∙ gathers_zero apart 0 (zip (zip m v) k) refl (covers_back m v k l n c)),
)

-- the bits under the mask in which a byte of two keys differs
abbrev pub parted : (ℕ × ℕ) × ℕ → ℕ
parted p = bit_xor (bit_and p.0.0 p.0.1) (bit_and p.0.0 p.1)

agree_from : (m a b : List ℕ) → length m ≡ length a → length a ≡ length b → AllByRecursion (λ p. parted p ≡ 0) (zip (zip m a) b) → masked m a ≡ masked m b
unfolding masked
agree_from [] [] b l n h = refl
agree_from [] (y ∷ a) b l n h = absurd (omega arith)
agree_from (x ∷ m) [] b l n h = absurd (omega arith)
agree_from (x ∷ m) (y ∷ a) [] l n h = absurd (omega arith)
agree_from (x ∷ m) (y ∷ a) (z ∷ b) l n h =
    ap₂ ◌∷◌ (same_from_xor (bit_and x y) (bit_and x z) h.0) (agree_from m a b (omega arith) (omega arith) h.1)

agree_back : (m a b : List ℕ) → length m ≡ length a → length a ≡ length b → masked m a ≡ masked m b → AllByRecursion (λ p. parted p ≡ 0) (zip (zip m a) b)
unfolding masked
agree_back [] [] b l n e = tt
agree_back [] (y ∷ a) b l n e = tt
agree_back (x ∷ m) [] b l n e = tt
agree_back (x ∷ m) (y ∷ a) [] l n e = tt
agree_back (x ∷ m) (y ∷ a) (z ∷ b) l n e =
    let here : bit_and x y ≡ bit_and x z = cc in
    let rest : masked m a ≡ masked m b = cc in
    (xor_same (bit_and x y) (bit_and x z) here, agree_back m a b (omega arith) (omega arith) rest)

-- agreement, by the bits that are gathered
pub agree_gathered : (m a b : List ℕ) (d : ℕ) → length m ≡ length a → length a ≡ length b → d ≡ fold (λ e p. bit_or e (parted p)) 0 (zip (zip m a) b) → Decides (eqb d 0) (Agree m a b)
agree_gathered m a b d l n e = (
  λ t. agree_from m a b l n (gathers_none parted 0 (zip (zip m a) b) (sym e ∙ eqb-true d 0 t)).1,
  λ c. eq-eqb d 0 (e ∙ gathers_zero parted 0 (zip (zip m a) b) refl (agree_back m a b l n c)),
)
