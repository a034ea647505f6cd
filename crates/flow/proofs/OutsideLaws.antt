-- The first byte of a value that has a bit outside the mask.
use Rattle.std.proofs.Common.{◌≡◌, ℕ, zero, suc, ◌+◌, ◌<◌, Bool, true, false, cond, not, zip, eqb, List, [], ◌∷◌, length, get_or, Some, None, Option, sym, refl, ap, ◌∙◌, ap₂, ⊎_elim, add-one, arith}
use lib.Bits.{bit_and}
use Rattle.std.specs.List.{position, position_from}
use Rattle.std.specs.Option.{option_map}
use Rattle.std.proofs.lemmas.Iterator.Adapters.{position_from-zero}
use Rattle.std.proofs.lemmas.Bool.{cond-true, cond-false, eq-eqb, ne_eqb, eqb-true, cases_Bool}
use Rattle.flow.specs.Masks.{masked, Within, one_more, first_difference, first_outside}
use Rattle.flow.proofs.MaskLaws.{masked_at, length_masked}
use Rattle.flow.proofs.Places.{masked_from_places}

pub difference_none : (xs : List ℕ) → first_difference xs xs ≡ None
unfolding first_difference
difference_none [] = refl
difference_none (x ∷ xs) = cond-true (eqb x x) _ _ (eq-eqb x x refl) ∙ ap one_more (difference_none xs)

pub difference_at : (xs ys : List ℕ) (i : ℕ) → i < length xs → i < length ys → ((k : ℕ) → k < i → get_or xs k 0 ≡ get_or ys k 0) → (get_or xs i 0 ≡ get_or ys i 0 → ⊥) → first_difference xs ys ≡ Some i
unfolding first_difference
difference_at [] ys i h l s n = absurd (omega arith)
difference_at (x ∷ xs) [] i h l s n = absurd (omega arith)
difference_at (x ∷ xs) (y ∷ ys) zero h l s n = cond-false (eqb x y) _ _ (ne_eqb x y n)
difference_at (x ∷ xs) (y ∷ ys) (suc i) h l s n =
    cond-true (eqb x y) _ _ (eq-eqb x y (s 0 (omega arith)))
    ∙ ap one_more (difference_at xs ys i (omega arith) (omega arith) (λ k q. s (suc k) (omega arith)) n)
    ∙ ap Some (add-one i)

none_before : (o : Option ℕ) → one_more o ≡ None → o ≡ None
none_before None e = refl
none_before (Some i) e = absurd (let z : ◌≡◌ {A = ℕ} 0 1 = cc in omega arith)

pub same_from_none : (xs ys : List ℕ) → length xs ≡ length ys → first_difference xs ys ≡ None → xs ≡ ys
unfolding first_difference
same_from_none [] [] l e = refl
same_from_none [] (y ∷ ys) l e = absurd (omega arith)
same_from_none (x ∷ xs) [] l e = absurd (omega arith)
same_from_none (x ∷ xs) (y ∷ ys) l e =
    ⊎_elim
    (λ (t : eqb x y ≡ true).
    ap₂ ◌∷◌ (eqb-true x y t)
    (same_from_none xs ys (omega arith) (none_before _ (sym (cond-true (eqb x y) _ _ t) ∙ e))))
    (λ (t : eqb x y ≡ false).
    let s : Some 0 ≡ None = sym (cond-false (eqb x y) _ _ t) ∙ e in
    let z : ◌≡◌ {A = ℕ} 0 1 = cc in absurd (omega arith))
    (cases_Bool (eqb x y))

-- no byte of the value has a bit outside the mask, just where the value has none
pub none_outside : (m v : List ℕ) → Within v m → first_outside m v ≡ None
unfolding first_outside
none_outside m v w = ap (λ x. first_difference x v) w ∙ difference_none v

pub within_from_none : (m v : List ℕ) → length m ≡ length v → first_outside m v ≡ None → Within v m
unfolding first_outside
within_from_none m v l e = same_from_none (masked m v) v (length_masked (length v) m v l refl) e

pub outside_at : (m v : List ℕ) (i : ℕ) → length m ≡ length v → i < length v → ((k : ℕ) → k < i → bit_and (get_or m k 0) (get_or v k 0) ≡ get_or v k 0) → (bit_and (get_or m i 0) (get_or v i 0) ≡ get_or v i 0 → ⊥) → first_outside m v ≡ Some i
unfolding first_outside
outside_at m v i l h s n =
    let q = length_masked (length v) m v l refl in
    difference_at (masked m v) v i (omega arith) h (λ k lt. masked_at m v k ∙ s k lt) (λ e. n (sym (masked_at m v i) ∙ e))

pub outside_all : (m v : List ℕ) → length m ≡ 36 → length v ≡ 36 → ((k : ℕ) → k < 36 → bit_and (get_or m k 0) (get_or v k 0) ≡ get_or v k 0) → first_outside m v ≡ None
outside_all m v lm lv h = none_outside m v (sym (masked_from_places 36 m v v lm lv lv (λ i l. sym (h i l))))

low_more : (o : Option ℕ) (n i : ℕ) → ((j : ℕ) → o ≡ Some j → j < n) → one_more o ≡ Some i → i < suc n
low_more None n i h e = let z : ◌≡◌ {A = ℕ} 0 1 = cc in absurd (omega arith)
low_more (Some j) n i h e = let q : j + 1 ≡ i = cc in omega (arith, h j refl)

difference_low : (xs ys : List ℕ) (i : ℕ) → first_difference xs ys ≡ Some i → i < length ys
unfolding first_difference
difference_low [] ys i e = let z : ◌≡◌ {A = ℕ} 0 1 = cc in absurd (omega arith)
difference_low (x ∷ xs) [] i e = let z : ◌≡◌ {A = ℕ} 0 1 = cc in absurd (omega arith)
difference_low (x ∷ xs) (y ∷ ys) i e =
    ⊎_elim
    (λ (t : eqb x y ≡ true).
    low_more (first_difference xs ys) (length ys) i (difference_low xs ys) (sym (cond-true (eqb x y) _ _ t) ∙ e))
    (λ (t : eqb x y ≡ false).
    let s : Some 0 ≡ Some i = sym (cond-false (eqb x y) _ _ t) ∙ e in
    let z : 0 ≡ i = cc in omega arith)
    (cases_Bool (eqb x y))

-- a place that is named is one of the value's
pub outside_low : (m v : List ℕ) (i : ℕ) → first_outside m v ≡ Some i → i < length v
unfolding first_outside
outside_low m v i e = difference_low (masked m v) v i e

-- and then the value has a bit outside the mask
pub outside_some : (m v : List ℕ) (i : ℕ) → first_outside m v ≡ Some i → Within v m → ⊥
outside_some m v i e w = let n = none_outside m v w in let z : ◌≡◌ {A = ℕ} 0 1 = cc in omega arith

-- the same place, as `position` gives it
outside_from : (i : ℕ) (m v : List ℕ) → length m ≡ length v → position_from (λ p. not (eqb (bit_and p.0 p.1) p.1)) i (zip m v) ≡ option_map (λ j. i + j) (first_difference (masked m v) v)
unfolding masked first_difference
outside_from i [] v l = refl
outside_from i (x ∷ m) [] l = refl
outside_from i (x ∷ m) (y ∷ v) l = step (eqb (bit_and x y) y) (outside_from (i + 1) m v (omega arith))
  where
    further : (o : Option ℕ) → option_map (λ j. i + 1 + j) o ≡ option_map (λ j. i + j) (one_more o)
    further None = refl
    further (Some j) = let e : i + 1 + j ≡ i + (j + 1) = omega arith in ap Some e

    step : (b : Bool) → position_from (λ p. not (eqb (bit_and p.0 p.1) p.1)) (i + 1) (zip m v) ≡ option_map (λ j. i + 1 + j) (first_difference (masked m v) v) → cond (not b) (Some i) (position_from (λ p. not (eqb (bit_and p.0 p.1) p.1)) (i + 1) (zip m v)) ≡ option_map (λ j. i + j) (cond b (one_more (first_difference (masked m v) v)) (Some 0))
    step true e = e ∙ further (first_difference (masked m v) v)
    step false e = let z : i ≡ i + 0 = omega arith in ap Some z

whole : (o : Option ℕ) → option_map (λ j. 0 + j) o ≡ o
whole None = refl
whole (Some j) = let e : 0 + j ≡ j = omega arith in ap Some e

pub outside_position : (m v : List ℕ) → length m ≡ length v → position (λ p. not (eqb (bit_and p.0 p.1) p.1)) (zip m v) ≡ first_outside m v
unfolding first_outside
outside_position m v l =
    position_from-zero (λ p. not (eqb (bit_and p.0 p.1) p.1)) (zip m v) ∙ outside_from 0 m v l ∙ whole (first_difference (masked m v) v)
