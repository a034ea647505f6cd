-- The index of the rules of a table.
use Rattle.std.proofs.Common.{◌≡◌, ℕ, zero, suc, ◌+◌, ◌<◌, ◌≤◌, true, eqb, List, [], ◌∷◌, length, get_or, take, sym, refl, ap, ◌∙◌, subst, arith}
use Rattle.std.proofs.lemmas.List.{take_more, length-take-le}
use Rattle.std.proofs.lemmas.Bool.{cond_both}
use Rattle.search.specs.Buckets.{Marked, stands}
use Rattle.search.proofs.IndexLaws.{indexed_push_put}
use Rattle.classifier.specs.declared.rule.Rule.{Rule}
use Rattle.classifier.specs.Tables.{raised, credited}
use Rattle.tuple_space.specs.Indexes.{rule_home, IndexedRules}

-- one rule more
pub indexed_next : (rs : List Rule) (bs cs : List ℕ) (i : ℕ) (d : Rule) → i < length rs → length rs ≤ 64 → IndexedRules (take i rs) bs → Marked bs cs (rule_home (get_or rs i d)) i → IndexedRules (take (i + 1) rs) cs
indexed_next rs bs cs i d l few ix m =
    let long : length (take i rs) ≡ i = length-take-le i rs (omega arith) in
    subst (λ xs. IndexedRules xs cs) (sym (take_more rs i d l))
    (indexed_push_put (λ _. true) rule_home (take i rs) bs cs (get_or rs i d) (omega (arith, long)) refl ix (subst (λ n. Marked bs cs (rule_home (get_or rs i d)) n) (sym long) m))

-- counts do not matter
stands_credited : (rs : List Rule) (j n b i : ℕ) → stands (λ _. true) rule_home (credited rs j n) b i ≡ stands (λ _. true) rule_home rs b i
unfolding stands credited
stands_credited [] j n b i = refl
stands_credited (r ∷ rs) j n b zero =
    cond_both (eqb r.id j) (raised n r) r (λ x. eqb (rule_home x) b ≡ eqb (rule_home r) b) (λ _. refl) (λ _. refl)
stands_credited (r ∷ rs) j n b (suc i) = stands_credited rs j n b i

pub indexed_credited : (rs ys : List Rule) (bs : List ℕ) (j n : ℕ) → ys ≡ credited rs j n → IndexedRules rs bs → IndexedRules ys bs
indexed_credited rs ys bs j n e ix = λ b i. ix b i ∙ sym (ap (λ xs. stands (λ _. true) rule_home xs b i) e ∙ stands_credited rs j n b i)
