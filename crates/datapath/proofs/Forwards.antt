-- Each rule's next table stays a good one.
use Rattle.std.proofs.Common.{◌≡◌, ℕ, zero, suc, ◌+◌, ◌<◌, true, false, cond, not, eqb, ltb, List, [], ◌∷◌, map, length, get_or, set, Ok, Err, Result, MatchResult, ◌⊎◌, inl, inr, sym, ap, ◌∙◌, subst, arith, length-set}
use Rattle.std.proofs.lemmas.List.{length-map}
use Rattle.std.specs.List.{AllByRecursion}
use Rattle.std.proofs.ByRecursion.{all_kept_by}
use Rattle.classifier.specs.declared.rule.Rule.{Rule}
use Rattle.classifier.specs.Tables.{raised, credited, added, removed}
use Rattle.datapath.specs.declared.level.Mark.{Mark}
use Rattle.datapath.specs.Walk.{TablesOf, table_of, good_next, Forward, credit_at, credit_along}
use Rattle.datapath.proofs.Nexts.{forward_at, change_set, same_set}

-- a rule whose next table is good for its own
abbrev pub Good : ℕ → Rule → Type 0
Good t r = good_next t r.next ≡ true

pub forward_set : (s : ℕ) (ts : TablesOf) (t : ℕ) (rs : List Rule) → Forward s ts → AllByRecursion (Good (s + t)) rs → Forward s (set ts t rs)
unfolding Forward
forward_set s [] t rs h g = tt
forward_set s (x ∷ ts) zero rs h g = let e : s + 0 ≡ s = omega arith in (subst (λ u. AllByRecursion (Good u) rs) e g, h.1)
forward_set s (x ∷ ts) (suc t) rs h g =
    let e : s + suc t ≡ s + 1 + t = omega arith in
    (h.0, forward_set (s + 1) ts t rs h.1 (subst (λ u. AllByRecursion (Good u) rs) e g))

pub good_credited : (t : ℕ) (rs : List Rule) (i n : ℕ) → AllByRecursion (Good t) rs → AllByRecursion (Good t) (credited rs i n)
unfolding credited
good_credited t [] i n h = tt
good_credited t (r ∷ rs) i n h =
    (elim (eqb r.id i) as (λ b. Good t (cond b (raised n r) r)) [ true ↦ h.0 | false ↦ h.0 ], good_credited t rs i n h.1)

pub good_added : (t : ℕ) (rs : List Rule) (new : Rule) → Good t new → AllByRecursion (Good t) rs → AllByRecursion (Good t) (added rs new)
unfolding added
good_added t [] new g h = (g, tt)
good_added t (r ∷ rs) new g h =
    elim (ltb new.id r.id) as (λ b. AllByRecursion (Good t) (cond b (new ∷ r ∷ rs) (r ∷ added rs new))) [ true ↦ (g, h) | false ↦ (h.0, good_added t rs new g h.1) ]

pub good_removed : (t : ℕ) (rs : List Rule) (i : ℕ) → AllByRecursion (Good t) rs → AllByRecursion (Good t) (removed rs i)
unfolding removed
good_removed t rs i h = all_kept_by (λ r. not (eqb r.id i)) (Good t) rs h

pub forward_credit : (ts : TablesOf) (t i n : ℕ) → Forward 0 ts → t < length ts → Forward 0 (credit_at ts t i n)
forward_credit ts t i n h l = forward_set 0 ts t (credited (table_of ts t) i n) h (good_credited (0 + t) (table_of ts t) i n (forward_at 0 ts t h l))

pub forward_along : (ms : List Mark) (ts : TablesOf) (n : ℕ) → Forward 0 ts → AllByRecursion (λ m. m.table < 4) ms → length ts ≡ 4 → Forward 0 (credit_along ts ms n)
unfolding credit_along
forward_along [] ts n h l f = h
forward_along (m ∷ ms) ts n h l f =
    forward_along ms (credit_at ts m.table m.id n) n (forward_credit ts m.table m.id n h (omega (arith, l.0))) l.1 (simp length-set f)

-- one table changed by F or not at all, where F keeps good next tables
pub forward_either : {X : Type 0} (f : X → List Rule) (F : List Rule → List Rule) (xs : List X) (t : ℕ) (x y : X) → t < length xs → x ≡ get_or xs t x → (f y ≡ F (f x)) ⊎ (f y ≡ f x) → ((rs : List Rule) → AllByRecursion (Good (0 + t)) rs → AllByRecursion (Good (0 + t)) (F rs)) → Forward 0 (map f xs) → Forward 0 (map f (set xs t y))
forward_either f F xs t x y l e (inl h) keeps w =
    let here : t < length (map f xs) = simp length-map l in
    subst (Forward 0) (sym (change_set f F xs t x y l (h ∙ ap (λ z. F (f z)) e)))
    (forward_set 0 (map f xs) t _ w (keeps (table_of (map f xs) t) (forward_at 0 (map f xs) t w here)))
forward_either f F xs t x y l e (inr h) keeps w = subst (Forward 0) (sym (same_set f xs t x y l (h ∙ ap f e))) w

-- an answer of a call: it changed the rules, or refused and changed nothing
pub changed_or_not : {T E : Type 0} (A : T → Type 0) (B : E → Type 0) (P Q : Type 0) (r : Result T E) → MatchResult r (λ v. A v × P) (λ e. B e × Q) → P ⊎ Q
changed_or_not A B P Q (Ok v) h = inl h.1
changed_or_not A B P Q (Err e) h = inr h.1
