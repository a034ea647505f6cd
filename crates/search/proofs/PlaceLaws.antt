-- What the place that a search finds says of the slots.
use Rattle.std.proofs.Common.{◌≡◌, ℕ, suc, ◌+◌, ◌<◌, Bool, true, false, cond, ltb, List, [], ◌∷◌, length, get_or, Some, None, Option, sym, refl, ap, ◌∙◌, arith}
use Rattle.std.specs.Option.{option_map}
use Rattle.std.proofs.lemmas.Bool.{true≢false}
use Rattle.search.specs.Best.{higher, best, numbered, best_place}
use Rattle.search.proofs.BestLaws.{best_value}

module _ {E : Type 0} (rank : E → ℕ) (fits : E → Bool) where
  -- the pair is that of place n + at, and its element fits
  record Placed (n : ℕ) (xs : List E) (x : ℕ × E) : Type 0 where
    pub at : ℕ
    pub place : x.0 ≡ n + at
    pub within : at < length xs
    pub there : (d : E) → get_or xs at d ≡ x.1
    pub fit : fits x.1 ≡ true

  abbrev Placing : ℕ → List E → Option (ℕ × E) → Type 0
  Placing n xs None = Unit {0}
  Placing n xs (Some x) = Placed n xs x

  first : (n : ℕ) (e : E) (xs : List E) → fits e ≡ true → Placed n (e ∷ xs) (n, e)
  first n e xs f = record { at = 0; place = omega arith; within = omega arith; there = λ d. refl; fit = f }

  further : (n : ℕ) (e : E) (xs : List E) (b : Option (ℕ × E)) → Placing (n + 1) xs b → Placing n (e ∷ xs) b
  further n e xs None p = tt
  further n e xs (Some x) p =
      record { at = suc p.at; place = omega (arith, p.place); within = omega (arith, p.within); there = p.there; fit = p.fit }

  higher_placed : (n : ℕ) (e : E) (xs : List E) (b : Option (ℕ × E)) → fits e ≡ true → Placing n (e ∷ xs) b → Placing n (e ∷ xs) (higher (λ x. rank x.1) (n, e) b)
  higher_placed n e xs None f p = first n e xs f
  higher_placed n e xs (Some y) f p = by (ltb (rank y.1) (rank e)) (first n e xs f) p
    where
      by : (t : Bool) → Placed n (e ∷ xs) (n, e) → Placed n (e ∷ xs) y → Placing n (e ∷ xs) (cond t (Some (n, e)) (Some y))
      by true p q = p
      by false p q = q

  placed : (n : ℕ) (xs : List E) → Placing n xs (best (λ x. rank x.1) (λ x. fits x.1) (numbered n xs))
  unfolding best numbered
  placed n [] = tt
  placed n (e ∷ xs) = by (fits e) refl (further n e xs (best (λ y. rank y.1) (λ y. fits y.1) (numbered (n + 1) xs)) (placed (n + 1) xs))
    where
      b : Option (ℕ × E)
      b = best (λ y. rank y.1) (λ y. fits y.1) (numbered (n + 1) xs)

      by : (t : Bool) → fits e ≡ t → Placing n (e ∷ xs) b → Placing n (e ∷ xs) (cond t (higher (λ y. rank y.1) (n, e) b) b)
      by true f p = higher_placed n e xs b f p
      by false f p = p

  -- the slot of the place that is found holds the best
  pub record Found (xs : List E) (p : ℕ) : Type 0 where
    pub within : p < length xs
    pub fit : (d : E) → fits (get_or xs p d) ≡ true
    pub is-best : (d : E) → best rank fits xs ≡ Some (get_or xs p d)

  found_by : (xs : List E) (p : ℕ) (b : Option (ℕ × E)) → Placing 0 xs b → option_map (λ x. x.1) b ≡ best rank fits xs → option_map (λ x. x.0) b ≡ Some p → Found xs p
  found_by xs p None h v e = absurd (true≢false (ap (λ o. elim o [ None ↦ true | Some y ↦ false ]) e))
  found_by xs p (Some x) h v e =
      let q : x.0 ≡ p = ap {B = ℕ} (λ o. elim o [ None ↦ 0 | Some y ↦ y ]) e in
      let a : h.at ≡ p = omega (arith, h.place, q) in
      let there : (d : E) → x.1 ≡ get_or xs p d = λ d. sym (h.there d) ∙ ap (λ i. get_or xs i d) a in
      record {
        within = omega (arith, h.within, a);
        fit = λ d. ap fits (sym (there d)) ∙ h.fit;
        is-best = λ d. sym v ∙ ap Some (there d);
      }

  pub place_found : (xs : List E) (p : ℕ) → best_place rank fits xs ≡ Some p → Found xs p
  place_found xs p e = found_by xs p (best (λ x. rank x.1) (λ x. fits x.1) (numbered 0 xs)) (placed 0 xs) (best_value rank fits 0 xs) e

  none_by : (b : Option (ℕ × E)) → option_map (λ x. x.0) b ≡ None → option_map (λ x. x.1) b ≡ None
  none_by None e = refl
  none_by (Some x) e = absurd (true≢false (ap (λ o. elim o [ None ↦ false | Some y ↦ true ]) e))

  -- no place is found only where none fits
  pub place_none : (xs : List E) → best_place rank fits xs ≡ None → best rank fits xs ≡ None
  place_none xs e = sym (best_value rank fits 0 xs) ∙ none_by (best (λ x. rank x.1) (λ x. fits x.1) (numbered 0 xs)) e
