-- Insertion into a list by a test, and what holds of each two elements of a list.
use Rattle.std.specs.Prelude.{◌≡◌, ℕ, zero, suc, ◌<◌, ◌≤◌, Bool, true, false, cond, ◌⊎◌, List, [], ◌∷◌, map, length, take, filter, slice_index_or, refl}
use Rattle.std.proofs.Common.{sym, ap, ◌∙◌, ⊎_elim, arith}
use Rattle.std.specs.List.{insert, remove, AllByRecursion}
use Rattle.std.proofs.lemmas.Bool.{cases_Bool, cond_both, cond-true, cond-false, both_ways}
use Rattle.std.proofs.ByRecursion.{All-weaker, all_kept_by}

-- R holds of each element and each later one
abbrev pub Pairs : {X : Type 0} → (X → X → Type 0) → List X → Type 0
Pairs R [] = Unit {0}
Pairs R (x ∷ xs) = AllByRecursion (R x) xs × Pairs R xs

-- one more element, before the first that it is less than
abbrev pub put : {X : Type 0} → (X → X → Bool) → List X → X → List X
put lt [] new = new ∷ []
put lt (x ∷ xs) new = cond (lt new x) (new ∷ x ∷ xs) (x ∷ put lt xs new)

pub length_put : {X : Type 0} (lt : X → X → Bool) (xs : List X) (a : X) → length (put lt xs a) ≡ suc (length xs)
length_put lt [] a = refl
length_put lt (x ∷ xs) a =
    cond_both (lt a x) (a ∷ x ∷ xs) (x ∷ put lt xs a) (λ ys. length ys ≡ suc (suc (length xs))) (λ _. refl)
    (λ _. ap suc (length_put lt xs a))

pub all_put : {X : Type 0} (P : X → Type 0) (lt : X → X → Bool) (xs : List X) (a : X) → AllByRecursion P xs → P a → AllByRecursion P (put lt xs a)
all_put P lt [] a h p = (p, tt)
all_put P lt (x ∷ xs) a h p =
    cond_both (lt a x) (a ∷ x ∷ xs) (x ∷ put lt xs a) (AllByRecursion P) (λ _. (p, h)) (λ _. (h.0, all_put P lt xs a h.1 p))

pub pairs_put : {X : Type 0} (R : X → X → Type 0) → ((x y : X) → R x y → R y x) → (lt : X → X → Bool) (xs : List X) (a : X) → AllByRecursion (R a) xs → Pairs R xs → Pairs R (put lt xs a)
pairs_put R turn lt [] a h q = (tt, tt)
pairs_put R turn lt (x ∷ xs) a h q =
    cond_both (lt a x) (a ∷ x ∷ xs) (x ∷ put lt xs a) (Pairs R) (λ _. (h, q))
    (λ _. (all_put (R x) lt xs a q.0 (turn a x h.0), pairs_put R turn lt xs a h.1 q.1))

-- an order stays one
pub sorted_put : {X : Type 0} (lt : X → X → Bool) → ((x y z : X) → lt x y ≡ true → lt y z ≡ true → lt x z ≡ true) → (xs : List X) (a : X) → AllByRecursion (λ x. lt a x ≡ false → lt x a ≡ true) xs → Pairs (λ x y. lt x y ≡ true) xs → Pairs (λ x y. lt x y ≡ true) (put lt xs a)
sorted_put lt chain [] a h q = (tt, tt)
sorted_put lt chain (x ∷ xs) a h q =
    cond_both (lt a x) (a ∷ x ∷ xs) (x ∷ put lt xs a) (Pairs (λ x y. lt x y ≡ true))
    (λ e. ((e, All-weaker (λ y. lt x y ≡ true) (λ y. lt a y ≡ true) (λ y f. chain a x y e f) xs q.0), q))
    (λ e. (all_put (λ y. lt x y ≡ true) lt xs a q.0 (h.0 e), sorted_put lt chain xs a h.1 q.1))

pub put_front : {X : Type 0} (lt : X → X → Bool) (xs : List X) (a : X) → AllByRecursion (λ x. lt a x ≡ true) xs → put lt xs a ≡ a ∷ xs
put_front lt [] a h = refl
put_front lt (x ∷ xs) a h = cond-true (lt a x) (a ∷ x ∷ xs) (x ∷ put lt xs a) h.0

put_below : {X : Type 0} (lt : X → X → Bool) (xs : List X) (x a : X) → lt a x ≡ true → put lt (x ∷ xs) a ≡ a ∷ x ∷ xs
put_below lt xs x a e = cond-true (lt a x) (a ∷ x ∷ xs) (x ∷ put lt xs a) e

put_above : {X : Type 0} (lt : X → X → Bool) (xs : List X) (x a : X) → lt a x ≡ false → put lt (x ∷ xs) a ≡ x ∷ put lt xs a
put_above lt xs x a e = cond-false (lt a x) (a ∷ x ∷ xs) (x ∷ put lt xs a) e

module _ {X : Type 0} (lt : X → X → Bool) (chain : (x y z : X) → lt x y ≡ true → lt y z ≡ true → lt x z ≡ true) where
  -- a goes before b, and both before x
  both_front : (xs : List X) (x a b : X) → lt a b ≡ true → lt b a ≡ false → lt a x ≡ true → lt b x ≡ true → put lt (put lt (x ∷ xs) a) b ≡ put lt (put lt (x ∷ xs) b) a
  both_front xs x a b ab ba ax bx =
      ap (λ ys. put lt ys b) (put_below lt xs x a ax) ∙ put_above lt (x ∷ xs) a b ba ∙ ap (λ ys. a ∷ ys) (put_below lt xs x b bx)
      ∙ sym (ap (λ ys. put lt ys a) (put_below lt xs x b bx) ∙ put_below lt (x ∷ xs) b a ab)

  one_front : (xs : List X) (x a b : X) → lt a x ≡ true → lt b x ≡ false → put lt (put lt (x ∷ xs) a) b ≡ put lt (put lt (x ∷ xs) b) a
  one_front xs x a b ax bx =
      let ba : lt b a ≡ false = ⊎_elim (λ t. absurd (both_ways (lt b x) bx (chain b a x t ax))) (λ f. f) (cases_Bool (lt b a)) in
      ap (λ ys. put lt ys b) (put_below lt xs x a ax) ∙ put_above lt (x ∷ xs) a b ba ∙ ap (λ ys. a ∷ ys) (put_above lt xs x b bx)
      ∙ sym (ap (λ ys. put lt ys a) (put_above lt xs x b bx) ∙ put_below lt (put lt xs b) x a ax)

  -- two elements that the order tells apart go in, in either turn
  pub put_comm : (xs : List X) (a b : X) → ((lt a b ≡ true) × (lt b a ≡ false)) ⊎ ((lt b a ≡ true) × (lt a b ≡ false)) → put lt (put lt xs a) b ≡ put lt (put lt xs b) a
  put_comm [] a b w =
      ⊎_elim (λ h. put_above lt [] a b h.1 ∙ sym (put_below lt [] b a h.0))
      (λ h. put_below lt [] a b h.0 ∙ sym (put_above lt [] b a h.1)) w
  put_comm (x ∷ xs) a b w =
      ⊎_elim
      (λ ax. ⊎_elim
      (λ bx. ⊎_elim (λ h. both_front xs x a b h.0 h.1 ax bx) (λ h. sym (both_front xs x b a h.0 h.1 bx ax)) w)
      (λ bx. one_front xs x a b ax bx) (cases_Bool (lt b x)))
      (λ ax. ⊎_elim (λ bx. sym (one_front xs x b a bx ax))
      (λ bx. ap (λ ys. put lt ys b) (put_above lt xs x a ax) ∙ put_above lt (put lt xs a) x b bx ∙ ap (λ ys. x ∷ ys) (put_comm xs a b w)
      ∙ sym (ap (λ ys. put lt ys a) (put_above lt xs x b bx) ∙ put_above lt (put lt xs b) x a ax))
      (cases_Bool (lt b x)))
      (cases_Bool (lt a x))

-- the place of an insertion, as a loop finds it
pub inserted_put : {X : Type 0} (lt : X → X → Bool) (xs : List X) (i : ℕ) (a : X) → i < length xs → AllByRecursion (λ x. lt a x ≡ false) (take i xs) → ((d : X) → lt a (slice_index_or xs i d) ≡ true) → insert xs i a ≡ put lt xs a
inserted_put lt [] i a h p q = absurd (omega arith)
inserted_put lt (x ∷ xs) zero a h p q = sym (put_below lt xs x a (q a))
inserted_put lt (x ∷ xs) (suc i) a h p q =
    ap (λ ys. x ∷ ys) (inserted_put lt xs i a (omega arith) p.1 q) ∙ sym (put_above lt xs x a p.0)

pub inserted_last : {X : Type 0} (lt : X → X → Bool) (xs : List X) (a : X) → AllByRecursion (λ x. lt a x ≡ false) xs → insert xs (length xs) a ≡ put lt xs a
inserted_last lt [] a p = refl
inserted_last lt (x ∷ xs) a p = ap (λ ys. x ∷ ys) (inserted_last lt xs a p.1) ∙ sym (put_above lt xs x a p.0)

-- an element out
pub all_removed : {X : Type 0} (P : X → Type 0) (xs : List X) (i : ℕ) → AllByRecursion P xs → AllByRecursion P (remove xs i)
all_removed P [] zero h = tt
all_removed P [] (suc i) h = tt
all_removed P (x ∷ xs) zero h = h.1
all_removed P (x ∷ xs) (suc i) h = (h.0, all_removed P xs i h.1)

pub pairs_removed : {X : Type 0} (R : X → X → Type 0) (xs : List X) (i : ℕ) → Pairs R xs → Pairs R (remove xs i)
pairs_removed R [] zero h = tt
pairs_removed R [] (suc i) h = tt
pairs_removed R (x ∷ xs) zero h = h.1
pairs_removed R (x ∷ xs) (suc i) h = (all_removed (R x) xs i h.0, pairs_removed R xs i h.1)

pub pairs_kept_by : {X : Type 0} (R : X → X → Type 0) (p : X → Bool) (xs : List X) → Pairs R xs → Pairs R (filter p xs)
pairs_kept_by R p [] h = tt
pairs_kept_by R p (x ∷ xs) h =
    cond_both (p x) (x ∷ filter p xs) (filter p xs) (Pairs R) (λ _. (all_kept_by p (R x) xs h.0, pairs_kept_by R p xs h.1))
    (λ _. pairs_kept_by R p xs h.1)

pub length_kept_by : {X : Type 0} (p : X → Bool) (xs : List X) → length (filter p xs) ≤ length xs
length_kept_by p [] = omega arith
length_kept_by p (x ∷ xs) =
    let ih = length_kept_by p xs in
    cond_both (p x) (x ∷ filter p xs) (filter p xs) (λ ys. length ys ≤ suc (length xs)) (λ _. omega arith) (λ _. omega arith)

-- each element changed
pub all_over : {X Y : Type 0} (P : Y → Type 0) (Q : X → Type 0) (f : X → Y) → ((x : X) → Q x → P (f x)) → (xs : List X) → AllByRecursion Q xs → AllByRecursion P (map f xs)
all_over P Q f step [] h = tt
all_over P Q f step (x ∷ xs) h = (step x h.0, all_over P Q f step xs h.1)

pub pairs_over : {X Y : Type 0} (R : Y → Y → Type 0) (S : X → X → Type 0) (f : X → Y) → ((x y : X) → S x y → R (f x) (f y)) → (xs : List X) → Pairs S xs → Pairs R (map f xs)
pairs_over R S f step [] h = tt
pairs_over R S f step (x ∷ xs) h = (all_over (R (f x)) (S x) f (λ y s. step x y s) xs h.0, pairs_over R S f step xs h.1)

pub pairs_weaker : {X : Type 0} (R S : X → X → Type 0) → ((x y : X) → S x y → R x y) → (xs : List X) → Pairs S xs → Pairs R xs
pairs_weaker R S step [] h = tt
pairs_weaker R S step (x ∷ xs) h = (All-weaker (S x) (R x) (λ y s. step x y s) xs h.0, pairs_weaker R S step xs h.1)

pub all_both : {X : Type 0} (P Q : X → Type 0) (xs : List X) → AllByRecursion P xs → AllByRecursion Q xs → AllByRecursion (λ x. P x × Q x) xs
all_both P Q [] h k = tt
all_both P Q (x ∷ xs) h k = ((h.0, k.0), all_both P Q xs h.1 k.1)
