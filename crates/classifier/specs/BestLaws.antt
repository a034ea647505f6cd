-- The best rule does not depend on the order of the rules; in falling priority it is the first that matches.
use Rattle.std.specs.Prelude.{◌≡◌, ℕ, ◌<◌, ◌≤◌, Bool, true, false, cond, ◌⊎◌, List, [], ◌∷◌, Some, None, Option, ◌≢◌, nat_lt, refl}
use Rattle.std.proofs.Common.{sym, ap, ◌∙◌, inl, inr, ⊎_elim, arith}
use Rattle.std.specs.List.{AllByRecursion}
use Rattle.std.proofs.lemmas.Bool.{cond_both, cond-true, cond-false, cases_Bool, cases_order, lt-ltb, le-ltb, both_ways}
use Rattle.std.proofs.ByRecursion.{All-weaker}
use Rattle.std.specs.Str.{bytes_eq}
use Rattle.flow.specs.Masks.{Agree, covered}
use Rattle.flow.proofs.MaskLaws.{covered_decides}
use Rattle.flow.proofs.OverlapLaws.{overlapping_from_both, overlapping_sym}
use Rattle.classifier.specs.declared.rule.Rule.{Rule}
use Rattle.classifier.specs.Rules.{matches, clashing, higher, best, Apart}
use Rattle.classifier.specs.Tables.{added}
use Rattle.classifier.specs.Stores.{by_id, first_match}
use Rattle.classifier.specs.Inserts.{Pairs}
use Rattle.classifier.specs.ByIdLaws.{added_cases, all_by_id}

-- two rules of one priority do not clash
abbrev pub Untied : Rule → Rule → Type 0
Untied r s = r.priority ≡ s.priority → clashing r s ≡ false

pub clashing_sym : (r s : Rule) → clashing r s ≡ clashing s r
unfolding clashing
clashing_sym r s = overlapping_sym r.mask r.value s.mask s.value

pub untied_sym : (r s : Rule) → Untied r s → Untied s r
untied_sym r s u e = clashing_sym s r ∙ u (sym e)

pub apart_from_pairs : (rs : List Rule) → Pairs Untied rs → Apart rs
unfolding Apart
apart_from_pairs [] h = tt
apart_from_pairs (r ∷ rs) h = (h.0, apart_from_pairs rs h.1)

pub pairs_from_apart : (rs : List Rule) → Apart rs → Pairs Untied rs
unfolding Apart
pairs_from_apart [] h = tt
pairs_from_apart (r ∷ rs) h = (h.0, pairs_from_apart rs h.1)

-- two rules that match one key clash
pub clashing_from_both : (r s : Rule) (k : List ℕ) → matches r k ≡ true → matches s k ≡ true → clashing r s ≡ true
unfolding matches clashing
clashing_from_both r s k p q =
    overlapping_from_both r.mask r.value s.mask s.value k ((covered_decides r.mask r.value k).0 p)
    ((covered_decides s.mask s.value k).0 q)

-- rules that do not tie and match one key have two priorities
pub priorities_differ : (r s : Rule) (k : List ℕ) → Untied r s → matches r k ≡ true → matches s k ≡ true → r.priority ≢ s.priority
priorities_differ r s k u p q e = both_ways (clashing r s) (u e) (clashing_from_both r s k p q)

higher_of : (r s : Rule) → s.priority < r.priority → higher r (Some s) ≡ Some r
higher_of r s l = cond-true (nat_lt s.priority r.priority) (Some r) (Some s) (lt-ltb s.priority r.priority l)

lower_of : (r s : Rule) → r.priority ≤ s.priority → higher r (Some s) ≡ Some s
lower_of r s l = cond-false (nat_lt s.priority r.priority) (Some r) (Some s) (le-ltb s.priority r.priority l)

higher_above : (r s : Rule) (o : Option Rule) → s.priority < r.priority → higher r (higher s o) ≡ higher s (higher r o)
higher_above r s None l = higher_of r s l ∙ sym (lower_of s r (omega arith))
higher_above r s (Some t) l =
    ⊎_elim
    (λ lt.  -- t below r
    cond_both (nat_lt t.priority s.priority) (Some s) (Some t) (λ o. higher r o ≡ higher s (higher r (Some t)))
    (λ _. higher_of r s l ∙ sym (ap (higher s) (higher_of r t lt) ∙ lower_of s r (omega arith)))
    (λ _. higher_of r t lt ∙ sym (ap (higher s) (higher_of r t lt) ∙ lower_of s r (omega arith))))
    (λ ge.  -- t not below r
    ap (higher r) (lower_of s t (omega arith)) ∙ lower_of r t ge ∙ sym (ap (higher s) (lower_of r t ge) ∙ lower_of s t (omega arith)))
    (either t.priority r.priority)
  where
    either : (a b : ℕ) → (a < b) ⊎ (b ≤ a)
    either a b = ⊎_elim (λ e. inr (omega arith)) (⊎_elim (λ l. inl l) (λ l. inr (omega arith))) (cases_order a b)

pub higher_comm : (r s : Rule) (o : Option Rule) → (r.priority ≢ s.priority) → higher r (higher s o) ≡ higher s (higher r o)
higher_comm r s o ne =
    ⊎_elim (λ e. absurd (ne e)) (⊎_elim (λ l. sym (higher_above s r o l)) (λ l. higher_above r s o l)) (cases_order r.priority s.priority)

in_turn : (r s : Rule) (o : Option Rule) (m n : Bool) → (m ≡ true → n ≡ true → higher s (higher r o) ≡ higher r (higher s o)) → cond m (higher s (cond n (higher r o) o)) (cond n (higher r o) o) ≡ cond n (higher r (cond m (higher s o) o)) (cond m (higher s o) o)
in_turn r s o true true h = h refl refl
in_turn r s o true false h = refl
in_turn r s o false true h = refl
in_turn r s o false false h = refl

-- one rule more, where no other that matches the key has its priority
pub best_added_at : (rs : List Rule) (r : Rule) (k : List ℕ) → AllByRecursion (λ s. matches r k ≡ true → matches s k ≡ true → r.priority ≢ s.priority) rs → best (added rs r) k ≡ cond (matches r k) (higher r (best rs k)) (best rs k)
unfolding best added
best_added_at [] r k h = refl
best_added_at (s ∷ rs) r k h =
    added_cases (λ ys. best ys k ≡ cond (matches r k) (higher r (best (s ∷ rs) k)) (best (s ∷ rs) k)) s rs r (λ _. refl)
    (λ _. ap (λ o. cond (matches s k) (higher s o) o) (best_added_at rs r k h.1)
    ∙ in_turn r s (best rs k) (matches s k) (matches r k) (λ p q. higher_comm s r (best rs k) (λ e. h.0 q p (sym e))))

-- one rule more, that ties with none
pub best_added : (rs : List Rule) (r : Rule) (k : List ℕ) → AllByRecursion (Untied r) rs → best (added rs r) k ≡ cond (matches r k) (higher r (best rs k)) (best rs k)
best_added rs r k h =
    best_added_at rs r k
    (All-weaker (Untied r) (λ s. matches r k ≡ true → matches s k ≡ true → r.priority ≢ s.priority) (λ s u p q. priorities_differ r s k u p q) rs h)

pub best_by_id : (xs : List Rule) (k : List ℕ) → Pairs Untied xs → best (by_id xs) k ≡ best xs k
unfolding by_id best
best_by_id [] k h = refl
best_by_id (x ∷ xs) k h =
    best_added (by_id xs) x k (all_by_id (Untied x) xs h.0) ∙ ap (λ o. cond (matches x k) (higher x o) o) (best_by_id xs k h.1)

-- none, or one of lower priority than p
abbrev Under : ℕ → Option Rule → Type 0
Under p None = Unit {0}
Under p (Some s) = s.priority < p

higher_under : (r : Rule) (o : Option Rule) → Under r.priority o → higher r o ≡ Some r
higher_under r None h = refl
higher_under r (Some s) h = higher_of r s h

pub best_under : (p : ℕ) (rs : List Rule) (k : List ℕ) → AllByRecursion (λ s. matches s k ≡ true → s.priority < p) rs → Under p (best rs k)
unfolding best
best_under p [] k h = tt
best_under p (s ∷ rs) k h =
    cond_both (matches s k) (higher s (best rs k)) (best rs k) (Under p)
    (λ m. which (best rs k) (h.0 m) (best_under p rs k h.1)) (λ _. best_under p rs k h.1)
  where
    which : (o : Option Rule) → s.priority < p → Under p o → Under p (higher s o)
    which None l u = l
    which (Some t) l u = cond_both (nat_lt t.priority s.priority) (Some s) (Some t) (Under p) (λ _. l) (λ _. u)

-- in falling priority the first match is the best
pub best_is_first : (xs : List Rule) (k : List ℕ) → Pairs Untied xs → Pairs (λ r s. s.priority ≤ r.priority) xs → best xs k ≡ first_match xs k
unfolding best
best_is_first [] k h f = refl
best_is_first (x ∷ xs) k h f =
    ⊎_elim
    (λ m. cond-true (matches x k) (higher x (best xs k)) (best xs k) m
    ∙ higher_under x (best xs k) (best_under x.priority xs k (strictly m xs h.0 f.0))
    ∙ sym (cond-true (matches x k) (Some x) (first_match xs k) m))
    (λ m. cond-false (matches x k) (higher x (best xs k)) (best xs k) m ∙ best_is_first xs k h.1 f.1
    ∙ sym (cond-false (matches x k) (Some x) (first_match xs k) m))
    (cases_Bool (matches x k))
  where
    strictly : matches x k ≡ true → (ys : List Rule) → AllByRecursion (Untied x) ys → AllByRecursion (λ s. s.priority ≤ x.priority) ys → AllByRecursion (λ s. matches s k ≡ true → s.priority < x.priority) ys
    strictly m [] u l = tt
    strictly m (y ∷ ys) u l = (
      (λ n. ⊎_elim (λ e. absurd (priorities_differ x y k u.0 m n e)) (⊎_elim (λ b. absurd (below b l.0)) (λ b. b)) (cases_order x.priority y.priority)),
      strictly m ys u.1 l.1,
    )
      where
        below : x.priority < y.priority → y.priority ≤ x.priority → ⊥
        below a b = omega arith

-- keys that agree in a rule's mask
pub matches_alike : (r : Rule) (k q : List ℕ) → Agree r.mask k q → matches r q ≡ matches r k
unfolding matches covered
matches_alike r k q e = sym (ap (λ x. bytes_eq x r.value) e)
