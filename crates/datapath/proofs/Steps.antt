-- The walk, one table at a time: what a loop over the tables keeps.
use Rattle.std.proofs.Common.{◌≡◌, ℕ, suc, cond, List, [], ◌∷◌, ◌++◌, Some, None, sym, refl, ap, ◌∙◌, append_assoc}
use lib.Bits.{bit_or, or_zero_r, or_zero_l}
use Rattle.std.proofs.lemmas.List.{append-nil}
use Rattle.std.proofs.lemmas.Bool.{eq-eqb, ne_eqb}
use Rattle.flow.specs.Masks.{Bytes36, Agree, union, empty_mask}
use Rattle.flow.proofs.BitLaws.{or_assoc}
use Rattle.flow.proofs.MaskLaws.{agree_left, agree_right}
use Rattle.classifier.specs.declared.rule.Match.{Match}
use Rattle.classifier.specs.Rules.{found, Adequate}
use Rattle.datapath.specs.declared.level.Mark.{Mark}
use Rattle.datapath.specs.Walk.{TablesOf, table_of, mark_of, crossing, walk_from, walk, ports_of, Alike, Tells}

-- xs are crossed already, with ports p and mask m; the walk goes on at table t, over at most so many tables
pub record Going (T : TablesOf) (k : List ℕ) (fuel t p : ℕ) (m : List ℕ) (xs : List Mark) : Type 0 where
  pub crossed : xs ++ walk_from fuel T t k ≡ walk T k
  pub ports : bit_or p (ports_of (walk_from fuel T t k)) ≡ ports_of (walk T k)
  pub mask : (q : List ℕ) → Bytes36 q → Agree m k q → walk_from fuel T t q ≡ walk_from fuel T t k → walk T q ≡ walk T k

-- the walk is over
pub record Over (T : TablesOf) (k : List ℕ) (p : ℕ) (m : List ℕ) (xs : List Mark) : Type 0 where
  pub crossed : xs ≡ walk T k
  pub ports : p ≡ ports_of (walk T k)
  pub mask : Tells T k m

pub begin : (T : TablesOf) (k : List ℕ) → Going T k 4 0 0 empty_mask []
unfolding walk
begin T k = record { crossed = refl; ports = or_zero_l (ports_of (walk_from 4 T 0 k)); mask = λ q b e f. f }

module _ (T : TablesOf) (k : List ℕ) (f t p : ℕ) (m : List ℕ) (xs : List Mark) (fm : List ℕ) (s : Going T k (suc f) t p m xs) (safe : Adequate (table_of T t) k fm) where
  pub stop : found (table_of T t) k ≡ None → Over T k p (union m fm) xs
  unfolding ports_of walk_from Adequate Alike Tells
  stop none =
      let w : walk_from (suc f) T t k ≡ [] = ap (λ o. crossing t o (λ u. walk_from f T u k)) none in
      record {
        crossed = sym (append-nil xs) ∙ ap (λ x. xs ++ x) (sym w) ∙ s.crossed;
        ports = sym (or_zero_r p) ∙ ap (λ x. bit_or p (ports_of x)) (sym w) ∙ s.ports;
        mask = λ q b e. sym (s.mask q b (agree_left m fm k q e) (ap (λ o. crossing t o (λ u. walk_from f T u q)) (safe q b (agree_right m fm k q e) ∙ none) ∙ sym w));
      }

  pub last : (h : Match) → found (table_of T t) k ≡ Some h → h.next ≡ 0 → Over T k (bit_or p h.ports) (union m fm) (xs ++ mark_of t h ∷ [])
  unfolding ports_of walk_from Adequate Alike Tells
  last h some end =
      let w : (q : List ℕ) → found (table_of T t) q ≡ Some h → walk_from (suc f) T t q ≡ mark_of t h ∷ [] = λ q e. ap (λ o. crossing t o (λ u. walk_from f T u q)) e ∙ ap (λ b. mark_of t h ∷ cond b [] (walk_from f T h.next q)) (eq-eqb h.next 0 end) in
      record {
        crossed = ap (λ x. xs ++ x) (sym (w k some)) ∙ s.crossed;
        ports = ap (bit_or p) (sym (or_zero_r h.ports)) ∙ ap (λ x. bit_or p (ports_of x)) (sym (w k some)) ∙ s.ports;
        mask = λ q b e. sym (s.mask q b (agree_left m fm k q e) (w q (safe q b (agree_right m fm k q e) ∙ some) ∙ sym (w k some)));
      }

  pub onward : (h : Match) → found (table_of T t) k ≡ Some h → (h.next ≡ 0 → ⊥) → Going T k f h.next (bit_or p h.ports) (union m fm) (xs ++ mark_of t h ∷ [])
  unfolding ports_of walk_from Adequate
  onward h some go =
      let w : (q : List ℕ) → found (table_of T t) q ≡ Some h → walk_from (suc f) T t q ≡ mark_of t h ∷ walk_from f T h.next q = λ q e. ap (λ o. crossing t o (λ u. walk_from f T u q)) e ∙ ap (λ b. mark_of t h ∷ cond b [] (walk_from f T h.next q)) (ne_eqb h.next 0 go) in
      record {
        crossed = append_assoc xs (mark_of t h ∷ []) (walk_from f T h.next k) ∙ ap (λ x. xs ++ x) (sym (w k some)) ∙ s.crossed;
        ports = or_assoc p h.ports (ports_of (walk_from f T h.next k)) ∙ ap (λ x. bit_or p (ports_of x)) (sym (w k some)) ∙ s.ports;
        mask = λ q b e x. s.mask q b (agree_left m fm k q e) (w q (safe q b (agree_right m fm k q e) ∙ some) ∙ ap (λ y. mark_of t h ∷ y) x ∙ sym (w k some));
      }

pub over : (T : TablesOf) (k : List ℕ) (t p : ℕ) (m : List ℕ) (xs : List Mark) → Going T k 0 t p m xs → Over T k p m xs
unfolding ports_of walk_from Alike Tells
over T k t p m xs s =
    record { crossed = sym (append-nil xs) ∙ s.crossed; ports = sym (or_zero_r p) ∙ s.ports; mask = λ q b e. sym (s.mask q b e refl) }
