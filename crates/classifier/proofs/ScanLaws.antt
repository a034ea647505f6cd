-- The steps of a search through a list of rules: what is left of it gives the answer.
use Rattle.std.proofs.Common.{◌≡◌, ℕ, ◌+◌, ◌<◌, ◌≤◌, Bool, true, false, ◌&&◌, ◌||◌, eqb, List, length, get_or, drop, Some, None, sym, ap, ◌∙◌}
use Rattle.std.proofs.lemmas.List.{get_or_default, at_drop_more, at_drop_all}
use Rattle.std.proofs.lemmas.Bool.{cond-true, cond-false, ne_eqb, eq-eqb, or_left}
use Rattle.flow.specs.Masks.{union}
use Rattle.flow.proofs.MaskLaws.{union_assoc}
use Rattle.flow.proofs.WholeLaws.{union_empty}
use Rattle.classifier.specs.declared.rule.Rule.{Rule}
use Rattle.classifier.specs.Rules.{matches, clashing}
use Rattle.classifier.specs.Tables.{stands, clash}
use Rattle.classifier.specs.Stores.{StandsAt, first_match, looked_at}

pub stands_next : (xs : List Rule) (i j : ℕ) (d : Rule) → i < length xs → ((get_or xs i d).id ≡ j → ⊥) → stands xs j ≡ stands (drop i xs) j → stands xs j ≡ stands (drop (i + 1) xs) j
unfolding stands
stands_next xs i j d h ne e =
    e ∙ at_drop_more (λ ys. stands ys j) xs i d h ∙ ap (λ b. b || stands (drop (i + 1) xs) j) (ne_eqb (get_or xs i d).id j ne)

pub stands_here : (xs : List Rule) (i j : ℕ) (d : Rule) → i < length xs → (get_or xs i d).id ≡ j → stands xs j ≡ stands (drop i xs) j → StandsAt xs j i
unfolding stands
stands_here xs i j d h is e =
    record {
      within = h;
      there = λ f. ap (λ r. r.id) (get_or_default xs i f d h) ∙ is;
      test = e ∙ at_drop_more (λ ys. stands ys j) xs i d h ∙ or_left (eqb (get_or xs i d).id j) (stands (drop (i + 1) xs) j) (eq-eqb (get_or xs i d).id j is);
    }

pub stands_none : (xs : List Rule) (i j : ℕ) → length xs ≤ i → stands xs j ≡ stands (drop i xs) j → stands xs j ≡ false
unfolding stands
stands_none xs i j h e = e ∙ at_drop_all (λ ys. stands ys j) xs i h

-- the test of a clash
abbrev pub clash_test : Rule → Rule → Bool
clash_test r new = eqb r.priority new.priority && clashing r new

pub clash_next : (xs : List Rule) (i : ℕ) (new d : Rule) → i < length xs → false ≡ clash_test (get_or xs i d) new → clash xs new ≡ clash (drop i xs) new → clash xs new ≡ clash (drop (i + 1) xs) new
unfolding clash
clash_next xs i new d h f e =
    e ∙ at_drop_more (λ ys. clash ys new) xs i d h
    ∙ cond-false (clash_test (get_or xs i d) new) (Some (get_or xs i d).id) (clash (drop (i + 1) xs) new) (sym f)

pub clash_here : (xs : List Rule) (i : ℕ) (new d : Rule) → i < length xs → true ≡ clash_test (get_or xs i d) new → clash xs new ≡ clash (drop i xs) new → Some (get_or xs i d).id ≡ clash xs new
unfolding clash
clash_here xs i new d h t e =
    sym (e ∙ at_drop_more (λ ys. clash ys new) xs i d h
    ∙ cond-true (clash_test (get_or xs i d) new) (Some (get_or xs i d).id) (clash (drop (i + 1) xs) new) (sym t))

pub clash_none : (xs : List Rule) (i : ℕ) (new : Rule) → length xs ≤ i → clash xs new ≡ clash (drop i xs) new → None ≡ clash xs new
unfolding clash
clash_none xs i new h e = sym (e ∙ at_drop_all (λ ys. clash ys new) xs i h)

pub first_next : (xs : List Rule) (i : ℕ) (k : List ℕ) (d : Rule) → i < length xs → false ≡ matches (get_or xs i d) k → first_match xs k ≡ first_match (drop i xs) k → first_match xs k ≡ first_match (drop (i + 1) xs) k
first_next xs i k d h f e =
    e ∙ at_drop_more (λ ys. first_match ys k) xs i d h
    ∙ cond-false (matches (get_or xs i d) k) (Some (get_or xs i d)) (first_match (drop (i + 1) xs) k) (sym f)

pub first_here : (xs : List Rule) (i : ℕ) (k : List ℕ) (d : Rule) → i < length xs → true ≡ matches (get_or xs i d) k → first_match xs k ≡ first_match (drop i xs) k → first_match xs k ≡ Some (get_or xs i d)
first_here xs i k d h t e =
    e ∙ at_drop_more (λ ys. first_match ys k) xs i d h
    ∙ cond-true (matches (get_or xs i d) k) (Some (get_or xs i d)) (first_match (drop (i + 1) xs) k) (sym t)

pub first_none : (xs : List Rule) (i : ℕ) (k : List ℕ) → length xs ≤ i → first_match xs k ≡ first_match (drop i xs) k → first_match xs k ≡ None
first_none xs i k h e = e ∙ at_drop_all (λ ys. first_match ys k) xs i h

pub looked_next : (xs : List Rule) (i : ℕ) (k m n w : List ℕ) (d : Rule) → i < length xs → false ≡ matches (get_or xs i d) k → n ≡ union m (get_or xs i d).mask → union m (looked_at (drop i xs) k) ≡ w → union n (looked_at (drop (i + 1) xs) k) ≡ w
unfolding looked_at
looked_next xs i k m n w d h f g e =
    ap (λ x. union x (looked_at (drop (i + 1) xs) k)) g ∙ union_assoc m (get_or xs i d).mask (looked_at (drop (i + 1) xs) k)
    ∙ sym (ap (union m) (at_drop_more (λ ys. looked_at ys k) xs i d h
    ∙ cond-false (matches (get_or xs i d) k) (get_or xs i d).mask (union (get_or xs i d).mask (looked_at (drop (i + 1) xs) k)) (sym f)))
    ∙ e

pub looked_here : (xs : List Rule) (i : ℕ) (k m n w : List ℕ) (d : Rule) → i < length xs → true ≡ matches (get_or xs i d) k → n ≡ union m (get_or xs i d).mask → union m (looked_at (drop i xs) k) ≡ w → n ≡ w
unfolding looked_at
looked_here xs i k m n w d h t g e =
    g ∙ sym (ap (union m) (at_drop_more (λ ys. looked_at ys k) xs i d h
    ∙ cond-true (matches (get_or xs i d) k) (get_or xs i d).mask (union (get_or xs i d).mask (looked_at (drop (i + 1) xs) k)) (sym t)))
    ∙ e

pub looked_none : (xs : List Rule) (i : ℕ) (k m w : List ℕ) → length xs ≤ i → length m ≡ 36 → union m (looked_at (drop i xs) k) ≡ w → m ≡ w
unfolding looked_at
looked_none xs i k m w h l e = sym (union_empty m l) ∙ sym (ap (union m) (at_drop_all (λ ys. looked_at ys k) xs i h)) ∙ e
