-- What a visit of the tuples finds: the best rule of the table.
use Rattle.std.proofs.Common.{◌≡◌, ℕ, ◌<◌, ◌≤◌, Bool, true, false, ltb, ◌⊎◌, List, [], ◌∷◌, Some, None, filter, Option, sym, refl, ap, subst, ⊎_elim, arith}
use Rattle.std.specs.List.{ContainsAt, AllByRecursion}
use Rattle.std.specs.Str.{bytes_eq}
use Rattle.std.proofs.lemmas.Bool.{cond_both, both_ways, ltb-true, ltb-false}
use Rattle.std.proofs.ByRecursion.{All-weaker, all-has, all_has_itself, all_kept_by, has_append_right}
use Rattle.classifier.specs.declared.rule.Rule.{Rule}
use Rattle.classifier.specs.Rules.{best, matches}
use Rattle.classifier.specs.Inserts.{Pairs, pairs_kept_by}
use Rattle.classifier.specs.BestLaws.{Untied}
use Rattle.classifier.specs.LawsLemmas.{Said, said_best}
use Rattle.tuple_space.specs.Visits.{having, better}

-- of the rules of which P holds, this is the best for the key
abbrev pub Tops : List Rule → List ℕ → (Rule → Type 0) → Option Rule → Type 0
Tops rs k P None = (r : Rule) → ContainsAt rs r → P r → matches r k ≡ false
Tops rs k P (Some b) = ContainsAt rs b × (matches b k ≡ true) × ((r : Rule) → ContainsAt rs r → P r → matches r k ≡ true → r.priority ≤ b.priority)

pub tops_join : (rs : List Rule) (k : List ℕ) (P Q R : Rule → Type 0) (o n : Option Rule) → ((r : Rule) → R r → P r ⊎ Q r) → Tops rs k P o → Tops rs k Q n → Tops rs k R (better (λ r. r.priority) o n)
tops_join rs k P Q R None None j s t = λ r h x. ⊎_elim (λ p. s r h p) (λ q. t r h q) (j r x)
tops_join rs k P Q R None (Some c) j s t =
    (t.0, t.1, λ r h x m. ⊎_elim (λ p. absurd (both_ways (matches r k) (s r h p) m)) (λ q. t.2 r h q m) (j r x))
tops_join rs k P Q R (Some b) None j s t =
    (s.0, s.1, λ r h x m. ⊎_elim (λ p. s.2 r h p m) (λ q. absurd (both_ways (matches r k) (t r h q) m)) (j r x))
tops_join rs k P Q R (Some b) (Some c) j s t =
    cond_both (ltb b.priority c.priority) (Some c) (Some b) (Tops rs k R)
    (λ e. (t.0, t.1, λ r h x m. ⊎_elim (λ p. low r (s.2 r h p m) (ltb-true b.priority c.priority e)) (λ q. t.2 r h q m) (j r x)))
    (λ e. (s.0, s.1, λ r h x m. ⊎_elim (λ p. s.2 r h p m) (λ q. high r (t.2 r h q m) (ltb-false b.priority c.priority e)) (j r x)))
  where
    low : (r : Rule) → r.priority ≤ b.priority → b.priority < c.priority → r.priority ≤ c.priority
    low r x y = omega arith

    high : (r : Rule) → r.priority ≤ c.priority → c.priority ≤ b.priority → r.priority ≤ b.priority
    high r x y = omega arith

-- the best of all is the best
tops_said : (rs : List Rule) (k : List ℕ) (o s : Option Rule) → Tops rs k (λ _. Unit {0}) o → Said rs k s → o ≡ s
tops_said rs k None None t s = refl
tops_said rs k None (Some c) t s = absurd (both_ways (matches c k) (t c s.0 tt) s.1)
tops_said rs k (Some b) None t s = absurd (both_ways (matches b k) (all-has (λ r. matches r k ≡ false) rs b s t.0) t.1)
tops_said rs k (Some b) (Some c) t s =
    ⊎_elim (λ e. ap Some e) (λ l. absurd (never (t.2 c s.0 tt s.1) l))
    (all-has (λ r. matches r k ≡ true → (r ≡ c) ⊎ (r.priority < c.priority)) rs b s.2 t.0 t.1)
  where
    never : c.priority ≤ b.priority → b.priority < c.priority → ⊥
    never x y = omega arith

pub tops_best : (rs : List Rule) (k : List ℕ) (o : Option Rule) → Pairs Untied rs → Tops rs k (λ _. Unit {0}) o → o ≡ best rs k
tops_best rs k o u t = tops_said rs k o (best rs k) t (said_best rs k u)

-- the search of one tuple ----------------------------------------------------------------------------------------

kept_has : {X : Type 0} (p : X → Bool) (xs : List X) → AllByRecursion (λ x. p x ≡ true → ContainsAt (filter p xs) x) xs
kept_has p [] = tt
kept_has p (x ∷ xs) =
    cond_both (p x) (x ∷ filter p xs) (filter p xs) (λ ys. (p x ≡ true → ContainsAt ys x) × AllByRecursion (λ y. p y ≡ true → ContainsAt ys y) xs)
    (λ e. (
      (λ _. (0, omega arith, λ d. refl)),
      All-weaker (λ y. p y ≡ true → ContainsAt (filter p xs) y) (λ y. p y ≡ true → ContainsAt (x ∷ filter p xs) y) (λ y f q. has_append_right (x ∷ []) (filter p xs) y (f q)) xs (kept_has p xs),
    ))
    (λ e. ((λ t. absurd (both_ways (p x) e t)), kept_has p xs))

tops_from_said : (rs : List Rule) (p : Rule → Bool) (k : List ℕ) (o : Option Rule) → Said (filter p rs) k o → Tops rs k (λ r. p r ≡ true) o
tops_from_said rs p k None s =
    λ r h x. all-has (λ y. matches y k ≡ false) (filter p rs) r s (all-has (λ y. p y ≡ true → ContainsAt (filter p rs) y) rs r (kept_has p rs) h x)
tops_from_said rs p k (Some b) s = (
  all-has (ContainsAt rs) (filter p rs) b (all_kept_by p (ContainsAt rs) rs (all_has_itself rs)) s.0,
  s.1,
  λ r h x m. ⊎_elim (λ e. subst (λ y. y.priority ≤ b.priority) (sym e) (omega arith)) (λ l. omega arith)
      (all-has (λ y. matches y k ≡ true → (y ≡ b) ⊎ (y.priority < b.priority)) (filter p rs) r s.2 (all-has (λ y. p y ≡ true → ContainsAt (filter p rs) y) rs r (kept_has p rs) h x) m),
)

pub tops_having : (rs : List Rule) (m k : List ℕ) → Pairs Untied rs → Tops rs k (λ r. bytes_eq r.mask m ≡ true) (best (having rs m) k)
tops_having rs m k u =
    tops_from_said rs (λ r. bytes_eq r.mask m) k (best (having rs m) k)
    (said_best (having rs m) k (pairs_kept_by Untied (λ r. bytes_eq r.mask m) rs u))
