-- The steps of a walk, as far as its mask goes.
use Rattle.std.proofs.Common.{◌≡◌, ℕ, zero, suc, ◌<◌, cond, List, [], ◌∷◌, length, get_or, Some, None, sym, refl, subst, arith}
use Rattle.std.proofs.lemmas.Bool.{eq-eqb, ne_eqb}
use Rattle.flow.specs.Masks.{union}
use Rattle.classifier.specs.declared.rule.Match.{Match}
use Rattle.classifier.specs.Rules.{found}
use Rattle.datapath.specs.Walk.{TablesOf, table_of}
use Rattle.datapath.specs.Given.{TableGives, EndedOr, Joins}

-- the classifier at a place gives its table's mask
pub table_gives_at : {C : Type 0} (gives : C → List ℕ → List ℕ → Type 0) (cs : List C) (t : ℕ) (k f : List ℕ) (c : C) → t < length cs → c ≡ get_or cs t c → gives c k f → TableGives gives cs t k f
unfolding TableGives
table_gives_at gives [] t k f c l e h = absurd (omega arith)
table_gives_at gives (x ∷ cs) zero k f c l e h = subst (λ y. gives y k f) e h
table_gives_at gives (x ∷ cs) (suc t) k f c l e h = table_gives_at gives cs t k f c (omega arith) e h

module _ (gives : ℕ → List ℕ → Type 0) (n : ℕ) (ts : TablesOf) (t : ℕ) (k m f w : List ℕ) (g : gives t f) where
  pub joins_stop : found (table_of ts t) k ≡ None → union m f ≡ w → Joins gives (suc n) ts t k m w
  unfolding Joins
  joins_stop e u = (f, g, subst (λ o. EndedOr o (union m f ≡ w) (λ v. Joins gives n ts v k (union m f) w)) (sym e) u)

  pub joins_last : (h : Match) → found (table_of ts t) k ≡ Some h → h.next ≡ 0 → union m f ≡ w → Joins gives (suc n) ts t k m w
  unfolding Joins
  joins_last h e z u =
      (f, g, subst (λ o. EndedOr o (union m f ≡ w) (λ v. Joins gives n ts v k (union m f) w)) (sym e) (subst (λ b. cond b (union m f ≡ w) (Joins gives n ts h.next k (union m f) w)) (sym (eq-eqb h.next 0 z)) u))

  pub joins_onward : (h : Match) → found (table_of ts t) k ≡ Some h → (h.next ≡ 0 → ⊥) → Joins gives n ts h.next k (union m f) w → Joins gives (suc n) ts t k m w
  unfolding Joins
  joins_onward h e z u =
      (f, g, subst (λ o. EndedOr o (union m f ≡ w) (λ v. Joins gives n ts v k (union m f) w)) (sym e) (subst (λ b. cond b (union m f ≡ w) (Joins gives n ts h.next k (union m f) w)) (sym (ne_eqb h.next 0 z)) u))

pub joins_end : (gives : ℕ → List ℕ → Type 0) (ts : TablesOf) (t : ℕ) (k m : List ℕ) → Joins gives 0 ts t k m m
unfolding Joins
joins_end gives ts t k m = refl
