-- The best of some elements: how a search meets it, one element after another.
use Rattle.std.proofs.Common.{◌≡◌, ℕ, zero, suc, ◌+◌, ◌-◌, ◌<◌, ◌≤◌, Bool, true, false, cond, ltb, List, [], ◌∷◌, length, get_or, drop, Some, None, Option, sym, refl, ap, ◌∙◌, ap₂, ⊎_elim, arith}
use Rattle.std.specs.Option.{option_map}
use Rattle.std.proofs.lemmas.Bool.{cases_lt, lt-ltb, le-ltb, ltb-true, ltb-false}
use Rattle.std.proofs.lemmas.List.{drop_more, drop_all}
use Rattle.search.specs.Best.{higher, best, numbered}
use Rattle.search.specs.Searches.{later, stepped}

module _ {X : Type 0} (rank : X → ℕ) where
  -- the best so far, above what is yet to come
  abbrev pub joined : Option X → Option X → Option X
  joined None b = b
  joined (Some a) b = higher rank a b

  pub joined_none : (t : Option X) → joined t None ≡ t
  joined_none None = refl
  joined_none (Some a) = refl

  -- where one of three has the highest rank, it does not matter which two are compared first
  three : (a x b : X) (p q r : Bool) → ltb (rank x) (rank a) ≡ p → ltb (rank b) (rank x) ≡ q → ltb (rank b) (rank a) ≡ r
      → joined (cond p (Some a) (Some x)) (Some b) ≡ higher rank a (cond q (Some x) (Some b))
  three a x b true true r ep eq er =
      let h : rank b < rank a = omega (arith, ltb-true (rank x) (rank a) ep, ltb-true (rank b) (rank x) eq) in
      ap (λ t. cond t (Some a) (Some b)) (lt-ltb (rank b) (rank a) h) ∙ sym (ap (λ t. cond t (Some a) (Some x)) ep)
  three a x b true false r ep eq er = refl
  three a x b false true r ep eq er = ap (λ t. cond t (Some x) (Some b)) eq ∙ sym (ap (λ t. cond t (Some a) (Some x)) ep)
  three a x b false false r ep eq er =
      let h : rank a ≤ rank b = omega (arith, ltb-false (rank x) (rank a) ep, ltb-false (rank b) (rank x) eq) in
      ap (λ t. cond t (Some x) (Some b)) eq ∙ sym (ap (λ t. cond t (Some a) (Some b)) (le-ltb (rank b) (rank a) h))

  later_joined : (t : Option X) (x : X) (b : Option X) → joined (later rank t x) b ≡ joined t (higher rank x b)
  later_joined None x b = refl
  later_joined (Some a) x None = joined_none (cond (ltb (rank x) (rank a)) (Some a) (Some x))
  later_joined (Some a) x (Some b) = three a x b (ltb (rank x) (rank a)) (ltb (rank b) (rank x)) (ltb (rank b) (rank a)) refl refl refl

  stepped_joined : (fits : X → Bool) (t : Option X) (x : X) (xs : List X) → joined (stepped rank fits t x) (best rank fits xs) ≡ joined t (best rank fits (x ∷ xs))
  unfolding best
  stepped_joined fits t x xs = by (fits x)
    where
      by : (f : Bool) → joined (cond f (later rank t x) t) (best rank fits xs) ≡ joined t (cond f (higher rank x (best rank fits xs)) (best rank fits xs))
      by true = later_joined t x (best rank fits xs)
      by false = refl

-- elements with their places
module _ {E : Type 0} (rank : E → ℕ) (fits : (ℕ × E) → Bool) where
  -- the best of those from place j on
  abbrev pub rest : ℕ → List E → Option (ℕ × E)
  rest j xs = best (λ x. rank x.1) fits (numbered j (drop j xs))

  pub rest_at : (xs : List E) (j : ℕ) (d : E) → j < length xs → rest j xs ≡ best (λ x. rank x.1) fits ((j, get_or xs j d) ∷ numbered (j + 1) (drop (j + 1) xs))
  unfolding numbered
  rest_at xs j d l = ap (λ z. best (λ x. rank x.1) fits (numbered j z)) (drop_more xs j d l)

  pub rest_past : (xs : List E) (j : ℕ) → length xs ≤ j → rest j xs ≡ None
  unfolding numbered best
  rest_past xs j l = ap (λ z. best (λ x. rank x.1) fits (numbered j z)) (drop_all j xs l)

  -- what does not fit is passed over
  rest_skip : (xs : List E) (j : ℕ) (d : E) → (j < length xs → fits (j, get_or xs j d) ≡ false) → rest j xs ≡ rest (j + 1) xs
  unfolding best
  rest_skip xs j d h =
      ⊎_elim
      (λ (l : j < length xs).
      let b = rest (j + 1) xs in
      rest_at xs j d l ∙ ap (λ t. cond t (higher (λ x. rank x.1) (j, get_or xs j d) b) b) (h l))
      (λ (l : length xs ≤ j). rest_past xs j l ∙ sym (rest_past xs (j + 1) (omega arith)))
      (cases_lt j (length xs))

  rest_skips : (xs : List E) (n j : ℕ) (d : E) → ((i : ℕ) → j ≤ i → i < j + n → i < length xs → fits (i, get_or xs i d) ≡ false) → rest j xs ≡ rest (j + n) xs
  rest_skips xs zero j d h = let e : j ≡ j + 0 = omega arith in ap (λ z. rest z xs) e
  rest_skips xs (suc n) j d h =
      let e : j + 1 + n ≡ j + suc n = omega arith in
      rest_skip xs j d (λ l. h j (omega arith) (omega arith) l)
      ∙ rest_skips xs n (j + 1) d (λ i p q l. h i (omega arith) (omega arith) l)
      ∙ ap (λ z. rest z xs) e

  pub rest_to : (xs : List E) (j t : ℕ) → j ≤ t → ((i : ℕ) (d : E) → j ≤ i → i < t → i < length xs → fits (i, get_or xs i d) ≡ false) → rest j xs ≡ rest t xs
  rest_to [] j t l h = rest_past [] j (omega arith) ∙ sym (rest_past [] t (omega arith))
  rest_to (x ∷ xs) j t l h =
      let e : j + (t - j) ≡ t = omega arith in
      rest_skips (x ∷ xs) (t - j) j x (λ i p q r. h i x p (omega arith) r) ∙ ap (λ z. rest z (x ∷ xs)) e

  -- none fits from place j on
  pub rest_none : (xs : List E) (j : ℕ) → ((i : ℕ) (d : E) → j ≤ i → i < length xs → fits (i, get_or xs i d) ≡ false) → rest j xs ≡ None
  rest_none xs j h =
      ⊎_elim
      (λ (l : j < length xs).
      rest_to xs j (length xs) (omega arith) (λ i d p q r. h i d p r) ∙ rest_past xs (length xs) (omega arith))
      (λ (l : length xs ≤ j). rest_past xs j l) (cases_lt j (length xs))

  -- a step of a search
  pub rest_step : (t s : Option (ℕ × E)) (xs : List E) (i : ℕ) (e : E) → i < length xs → e ≡ get_or xs i e
      → s ≡ stepped (λ x. rank x.1) fits t (i, e) → joined (λ x. rank x.1) s (rest (i + 1) xs) ≡ joined (λ x. rank x.1) t (rest i xs)
  rest_step t s xs i e l r q =
      let rk : (ℕ × E) → ℕ = λ x. rank x.1 in
      ap (λ z. joined rk z (rest (i + 1) xs)) q
      ∙ stepped_joined rk fits t (i, e) (numbered (i + 1) (drop (i + 1) xs))
      ∙ ap (λ z. joined rk t (best rk fits ((i, z) ∷ numbered (i + 1) (drop (i + 1) xs)))) r
      ∙ sym (ap (joined rk t) (rest_at xs i e l))

-- two tests that agree at every place
pub best_alike : {E : Type 0} (rank : E → ℕ) (f g : (ℕ × E) → Bool) (n : ℕ) (xs : List E)
    → ((i : ℕ) (d : E) → i < length xs → f (n + i, get_or xs i d) ≡ g (n + i, get_or xs i d))
    → best (λ x. rank x.1) f (numbered n xs) ≡ best (λ x. rank x.1) g (numbered n xs)
unfolding best numbered
best_alike rank f g n [] h = refl
best_alike rank f g n (x ∷ xs) h =
    let z : n ≡ n + 0 = omega arith in
    ap₂ (λ t b. cond t (higher (λ y. rank y.1) (n, x) b) b)
    (ap (λ k. f (k, x)) z ∙ h 0 x (omega arith) ∙ sym (ap (λ k. g (k, x)) z))
    (best_alike rank f g (n + 1) xs
    (λ i d l.
    let e : n + 1 + i ≡ n + suc i = omega arith in
    ap (λ z. f (z, get_or xs i d)) e ∙ h (suc i) d (omega arith) ∙ sym (ap (λ z. g (z, get_or xs i d)) e)))

-- the best without its place
module _ {E : Type 0} (rank : E → ℕ) (fits : E → Bool) where
  higher_value : (n : ℕ) (e : E) (b : Option (ℕ × E)) → option_map (λ x. x.1) (higher (λ x. rank x.1) (n, e) b) ≡ higher rank e (option_map (λ x. x.1) b)
  higher_value n e None = refl
  higher_value n e (Some y) = by (ltb (rank y.1) (rank e))
    where
      by : (t : Bool) → option_map (λ x. x.1) (cond t (Some (n, e)) (Some y)) ≡ cond t (Some e) (Some y.1)
      by true = refl
      by false = refl

  pub best_value : (n : ℕ) (xs : List E) → option_map (λ x. x.1) (best (λ x. rank x.1) (λ x. fits x.1) (numbered n xs)) ≡ best rank fits xs
  unfolding best numbered
  best_value n [] = refl
  best_value n (x ∷ xs) = by (fits x) (best_value (n + 1) xs)
    where
      b : Option (ℕ × E)
      b = best (λ y. rank y.1) (λ y. fits y.1) (numbered (n + 1) xs)

      by : (t : Bool) → option_map (λ y. y.1) b ≡ best rank fits xs
          → option_map (λ y. y.1) (cond t (higher (λ y. rank y.1) (n, x) b) b) ≡ cond t (higher rank x (best rank fits xs)) (best rank fits xs)
      by true ih = higher_value n x b ∙ ap (higher rank x) ih
      by false ih = ih
