-- Where the first element that passes a test stands, as `position` gives it.
use Rattle.std.proofs.Common.{◌≡◌, ℕ, zero, suc, ◌+◌, ◌<◌, ◌≤◌, Bool, true, false, cond, List, [], ◌∷◌, length, get_or, take, Some, None, Option, sym, refl, ◌∙◌, arith}
use Rattle.std.specs.List.{AllByRecursion, position, position_from}
use Rattle.std.proofs.lemmas.Iterator.Adapters.{position_from-zero}
use Rattle.std.proofs.lemmas.List.Quantifiers.{position-Some}

-- what holds of each of the first n elements
pub all_before : {X : Type 0} (P : X → Type 0) (n : ℕ) (xs : List X) (d : X) → n ≤ length xs → ((k : ℕ) → k < n → P (get_or xs k d)) → AllByRecursion P (take n xs)
all_before P zero xs d l h = tt
all_before P (suc n) [] d l h = absurd (omega arith)
all_before P (suc n) (x ∷ xs) d l h = (h 0 (omega arith), all_before P n xs d (omega arith) (λ k m. h (suc k) (omega arith)))

-- no element passes
pub none_passes : {X : Type 0} (p : X → Bool) (xs : List X) → position p xs ≡ None → AllByRecursion (λ x. p x ≡ false) xs
none_passes {X} p xs e = none 0 xs (sym (position_from-zero p xs) ∙ e)
  where
    none : (i : ℕ) (ys : List X) → position_from p i ys ≡ None → AllByRecursion (λ x. p x ≡ false) ys
    none i [] h = tt
    none i (y ∷ ys) h = step (p y) refl h (none (i + 1) ys)
      where
        step : (b : Bool) → p y ≡ b → cond b (Some i) (position_from p (i + 1) ys) ≡ None → (position_from p (i + 1) ys ≡ None → AllByRecursion (λ x. p x ≡ false) ys) → AllByRecursion (λ x. p x ≡ false) (y ∷ ys)
        step true t f g = cc
        step false t f g = (t, g f)

-- the first element that passes, and what stands before it
pub record FirstAt {X : Type 0} (p : X → Bool) (xs : List X) (i : ℕ) : Type 0 where
  pub within : i < length xs
  pub passes : (d : X) → p (get_or xs i d) ≡ true
  pub before : AllByRecursion (λ x. p x ≡ false) (take i xs)

pub first_passes : {X : Type 0} (p : X → Bool) (xs : List X) (i : ℕ) (d : X) → position p xs ≡ Some i → FirstAt p xs i
first_passes p xs i d e =
    let w = (position-Some p xs i d e).0 in
    record {
      within = w;
      passes = λ f. (position-Some p xs i f e).1;
      before = all_before (λ x. p x ≡ false) i xs d (omega arith) (position-Some p xs i d e).2;
    }

-- what is not some value is none
pub none_since : {X : Type 0} (o : Option X) → ((x : X) → o ≡ Some x → ⊥) → o ≡ None
none_since None h = refl
none_since (Some x) h = absurd (h x refl)
