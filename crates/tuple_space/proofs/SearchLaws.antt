-- The search of a tuple among the slots finds the best of the rules that have its mask.
use Rattle.std.proofs.Common.{◌≡◌, ℕ, ◌+◌, ◌<◌, ◌≤◌, Bool, true, false, cond, ◌&&◌, List, [], ◌∷◌, length, get_or, drop, Some, None, Option, sym, refl, ap, ◌∙◌, ap₂, ⊎_elim}
use Rattle.std.specs.Option.{option_map}
use Rattle.std.specs.List.{AllByRecursion}
use Rattle.std.specs.Str.{bytes_eq}
use Rattle.std.proofs.lemmas.List.{at_drop_more, at_drop_all}
use Rattle.std.proofs.lemmas.Bool.{cond-true, cond-false, cases_Bool, and_parts}
use Rattle.std.proofs.lemmas.Slice.Eq.{bytes_eq-Decides}
use Rattle.flow.specs.Masks.{covered, union}
use Rattle.flow.proofs.MaskLaws.{union_assoc}
use Rattle.flow.proofs.WholeLaws.{union_empty}
use Rattle.search.specs.Best as tuple
use Rattle.classifier.specs.declared.rule.Rule.{Rule}
use Rattle.classifier.specs.declared.element.Found.{Found}
use Rattle.classifier.specs.Found.{found_of}
use Rattle.classifier.specs.Rules.{best, matches, higher}
use Rattle.classifier.specs.Tables.{added}
use Rattle.classifier.specs.Stores.{by_id}
use Rattle.classifier.specs.Inserts.{Pairs}
use Rattle.classifier.specs.ByIdLaws.{added_cases, all_by_id}
use Rattle.classifier.specs.BestLaws.{Untied, higher_comm, priorities_differ}
use Rattle.tuple_space.specs.declared.ranked_mask.RankedMask.{RankedMask}
use Rattle.tuple_space.specs.Visits.{having, searched, above, better, outcome, topmost, priority_in, visited, joined}
use Rattle.tuple_space.proofs.Outcomes.{better_top}

-- a rule fits the search of a tuple
abbrev pub fits : List ℕ → List ℕ → Rule → Bool
fits m k r = tuple.fitting (λ _. true) (λ s. s.mask) (λ s. s.value) m k r

-- it then has the mask and matches
fits_is : (m k : List ℕ) (r : Rule) → fits m k r ≡ (bytes_eq r.mask m && matches r k)
unfolding matches
fits_is m k r =
    ⊎_elim (λ e. ap (λ n. bytes_eq r.mask m && covered n r.value k) (sym ((bytes_eq-Decides r.mask m).0 e)))
    (λ e. ap (λ b. b && covered m r.value k) e ∙ sym (ap (λ b. b && covered r.mask r.value k) e)) (cases_Bool (bytes_eq r.mask m))

in_turn : (r s : Rule) (o : Option Rule) (m n : Bool) → (m ≡ true → n ≡ true → higher s (higher r o) ≡ higher r (higher s o)) → cond m (higher s (cond n (higher r o) o)) (cond n (higher r o) o) ≡ cond n (higher r (cond m (higher s o) o)) (cond m (higher s o) o)
in_turn r s o true true h = h refl refl
in_turn r s o true false h = refl
in_turn r s o false true h = refl
in_turn r s o false false h = refl

-- the best of the rules that pass a test
abbrev pub best_by : (Rule → Bool) → List Rule → Option Rule
best_by p rs = tuple.best (λ r. r.priority) p rs

higher_is : (r : Rule) (o : Option Rule) → tuple.higher (λ s. s.priority) r o ≡ higher r o
higher_is r None = refl
higher_is r (Some s) = refl

best_by_added : (m k : List ℕ) (rs : List Rule) (r : Rule) → AllByRecursion (Untied r) rs → best_by (fits m k) (added rs r) ≡ cond (fits m k r) (higher r (best_by (fits m k) rs)) (best_by (fits m k) rs)
unfolding tuple.best added
best_by_added m k [] r h = ap (λ x. cond (fits m k r) x None) (higher_is r None)
best_by_added m k (s ∷ rs) r h =
    added_cases (λ ys. best_by (fits m k) ys ≡ cond (fits m k r) (higher r (best_by (fits m k) (s ∷ rs))) (best_by (fits m k) (s ∷ rs))) s rs r
    (λ _. ap (λ x. cond (fits m k r) x (best_by (fits m k) (s ∷ rs))) (higher_is r (best_by (fits m k) (s ∷ rs))))
    (λ _. ap (λ x. cond (fits m k s) x (best_by (fits m k) (added rs r))) (higher_is s (best_by (fits m k) (added rs r)))
    ∙ ap (λ o. cond (fits m k s) (higher s o) o) (best_by_added m k rs r h.1)
    ∙ in_turn r s (best_by (fits m k) rs) (fits m k s) (fits m k r)
    (λ p q. higher_comm s r (best_by (fits m k) rs) (λ e. priorities_differ r s k h.0 (right r q) (right s p) (sym e)))
    ∙ ap (λ x. cond (fits m k r) (higher r (cond (fits m k s) x (best_by (fits m k) rs))) (cond (fits m k s) x (best_by (fits m k) rs))) (sym (higher_is s (best_by (fits m k) rs))))
  where
    right : (x : Rule) → fits m k x ≡ true → matches x k ≡ true
    right x e = (and_parts (bytes_eq x.mask m) (matches x k) (sym (fits_is m k x) ∙ e)).1

best_by_id : (m k : List ℕ) (xs : List Rule) → Pairs Untied xs → best_by (fits m k) (by_id xs) ≡ best_by (fits m k) xs
unfolding tuple.best by_id
best_by_id m k [] h = refl
best_by_id m k (x ∷ xs) h =
    best_by_added m k (by_id xs) x (all_by_id (Untied x) xs h.0) ∙ ap (λ o. cond (fits m k x) (higher x o) o) (best_by_id m k xs h.1)
    ∙ ap (λ y. cond (fits m k x) y (best_by (fits m k) xs)) (sym (higher_is x (best_by (fits m k) xs)))

best_by_having : (m k : List ℕ) (rs : List Rule) → best_by (fits m k) rs ≡ best (having rs m) k
unfolding tuple.best best
best_by_having m k [] = refl
best_by_having m k (r ∷ rs) =
    ap (λ x. cond (fits m k r) x (best_by (fits m k) rs)) (higher_is r (best_by (fits m k) rs))
    ∙ ap₂ (λ b o. cond b (higher r o) o) (fits_is m k r) (best_by_having m k rs)
    ∙ ⊎_elim
    (λ e. ap (λ b. cond (b && matches r k) (higher r (best (having rs m) k)) (best (having rs m) k)) e
    ∙ sym (ap (λ ys. best ys k) (cond-true (bytes_eq r.mask m) (r ∷ having rs m) (having rs m) e)))
    (λ e. ap (λ b. cond (b && matches r k) (higher r (best (having rs m) k)) (best (having rs m) k)) e
    ∙ sym (ap (λ ys. best ys k) (cond-false (bytes_eq r.mask m) (r ∷ having rs m) (having rs m) e)))
    (cases_Bool (bytes_eq r.mask m))

-- the search among the slots
pub search_finds : (m k : List ℕ) (xs : List Rule) → Pairs Untied xs → best_by (fits m k) xs ≡ best (having (by_id xs) m) k
search_finds m k xs u = sym (best_by_id m k xs u) ∙ best_by_having m k (by_id xs)

-- the steps of a visit -------------------------------------------------------------------------------------------

pub outcome_next : {X : Type 0} (p : X → ℕ) (f : List ℕ → Option X) (ts : List RankedMask) (i : ℕ) (o n w : Option X) (d : RankedMask) → i < length ts → true ≡ above (get_or ts i d).rank (option_map p o) → n ≡ better p o (f (get_or ts i d).mask) → outcome p f o (drop i ts) ≡ w → outcome p f n (drop (i + 1) ts) ≡ w
unfolding outcome
outcome_next p f ts i o n w d l a g e =
    ap (λ x. outcome p f x (drop (i + 1) ts)) g
    ∙ sym (at_drop_more (outcome p f o) ts i d l ∙ cond-true (above (get_or ts i d).rank (option_map p o)) (outcome p f (better p o (f (get_or ts i d).mask)) (drop (i + 1) ts)) o (sym a))
    ∙ e

pub outcome_stop : {X : Type 0} (p : X → ℕ) (f : List ℕ → Option X) (ts : List RankedMask) (i : ℕ) (o w : Option X) (d : RankedMask) → i < length ts → false ≡ above (get_or ts i d).rank (option_map p o) → outcome p f o (drop i ts) ≡ w → o ≡ w
unfolding outcome
outcome_stop p f ts i o w d l a e =
    sym (at_drop_more (outcome p f o) ts i d l ∙ cond-false (above (get_or ts i d).rank (option_map p o)) (outcome p f (better p o (f (get_or ts i d).mask)) (drop (i + 1) ts)) o (sym a)) ∙ e

pub outcome_end : {X : Type 0} (p : X → ℕ) (f : List ℕ → Option X) (ts : List RankedMask) (i : ℕ) (o w : Option X) → length ts ≤ i → outcome p f o (drop i ts) ≡ w → o ≡ w
unfolding outcome
outcome_end p f ts i o w l e = sym (at_drop_all (outcome p f o) ts i l) ∙ e

pub visited_next : (rs : List Rule) (k : List ℕ) (ts : List RankedMask) (i : ℕ) (p q : Option ℕ) (m n w : List ℕ) (d : RankedMask) → i < length ts → true ≡ above (get_or ts i d).rank p → q ≡ topmost p (priority_in rs (get_or ts i d).mask k) → n ≡ union m (get_or ts i d).mask → union m (joined (visited rs k p (drop i ts))) ≡ w → union n (joined (visited rs k q (drop (i + 1) ts))) ≡ w
unfolding visited joined
visited_next rs k ts i p q m n w d l a g h e =
    let t = get_or ts i d in
    let rest = visited rs k (topmost p (priority_in rs t.mask k)) (drop (i + 1) ts) in
    ap₂ (λ x y. union x (joined (visited rs k y (drop (i + 1) ts)))) h g ∙ union_assoc m t.mask (joined rest)
    ∙ sym (ap (λ ms. union m (joined ms)) (at_drop_more (visited rs k p) ts i d l ∙ cond-true (above t.rank p) (t.mask ∷ rest) [] (sym a)))
    ∙ e

pub visited_stop : (rs : List Rule) (k : List ℕ) (ts : List RankedMask) (i : ℕ) (p : Option ℕ) (m w : List ℕ) (d : RankedMask) → i < length ts → false ≡ above (get_or ts i d).rank p → length m ≡ 36 → union m (joined (visited rs k p (drop i ts))) ≡ w → m ≡ w
unfolding visited joined
visited_stop rs k ts i p m w d l a g e =
    sym (union_empty m g)
    ∙ sym (ap (λ ms. union m (joined ms)) (at_drop_more (visited rs k p) ts i d l ∙ cond-false (above (get_or ts i d).rank p) ((get_or ts i d).mask ∷ visited rs k (topmost p (priority_in rs (get_or ts i d).mask k)) (drop (i + 1) ts)) [] (sym a)))
    ∙ e

pub visited_end : (rs : List Rule) (k : List ℕ) (ts : List RankedMask) (i : ℕ) (p : Option ℕ) (m w : List ℕ) → length ts ≤ i → length m ≡ 36 → union m (joined (visited rs k p (drop i ts))) ≡ w → m ≡ w
unfolding visited joined
visited_end rs k ts i p m w l g e = sym (union_empty m g) ∙ sym (ap (λ ms. union m (joined ms)) (at_drop_all (visited rs k p) ts i l)) ∙ e

-- the priority of what a search says
pub found_priority : (o : Option Rule) → option_map (λ f. f.priority) (option_map found_of o) ≡ option_map (λ r. r.priority) o
found_priority None = refl
found_priority (Some r) = refl

-- the priority found after a further tuple
pub next_priority : (rs : List Rule) (k m : List ℕ) (o n : Option Found) → n ≡ better (λ f. f.priority) o (searched rs k m) → option_map (λ f. f.priority) n ≡ topmost (option_map (λ f. f.priority) o) (priority_in rs m k)
next_priority rs k m o n e =
    ap (option_map (λ f. f.priority)) e ∙ better_top (λ f. f.priority) o (searched rs k m)
    ∙ ap (topmost (option_map (λ f. f.priority) o)) (found_priority (best (having rs m) k))
