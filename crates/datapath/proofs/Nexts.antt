-- The next tables of rules that were found.
use Rattle.std.proofs.Common.{◌≡◌, ℕ, zero, suc, ◌+◌, ◌<◌, true, List, [], ◌∷◌, map, length, get_or, set, Some, sym, ap, ◌∙◌, subst, arith}
use Rattle.std.proofs.lemmas.List.{get_or-map, map-set, set-get_or}
use Rattle.std.proofs.lemmas.Bool.Decides.{nat_tests}
use Rattle.std.specs.List.{AllByRecursion}
use Rattle.classifier.specs.declared.rule.Rule.{Rule}
use Rattle.classifier.specs.declared.rule.Match.{Match}
use Rattle.classifier.specs.Rules.{found}
use Rattle.classifier.specs.Tables.{credited}
use Rattle.datapath.specs.Walk.{TablesOf, table_of, good_next, Forward, credit_at}
use Rattle.datapath.proofs.Counts.{found_has}

-- each rule of a table has a good next one
pub forward_at : (s : ℕ) (ts : TablesOf) (t : ℕ) → Forward s ts → t < length ts → AllByRecursion (λ r. good_next (s + t) r.next ≡ true) (table_of ts t)
unfolding Forward
forward_at s [] t h l = absurd (omega arith)
forward_at s (x ∷ ts) zero h l =
    let e : s ≡ s + 0 = omega arith in
    subst (λ u. AllByRecursion (λ r. good_next u r.next ≡ true) x) e h.0
forward_at s (x ∷ ts) (suc t) h l =
    let e : s + 1 + t ≡ s + suc t = omega arith in
    subst (λ u. AllByRecursion (λ r. good_next u r.next ≡ true) (table_of ts t)) e (forward_at (s + 1) ts t h.1 (omega arith))

-- a good next table that is not 0 is one of the four
pub next_below : (t n : ℕ) → good_next t n ≡ true → (n ≡ 0 → ⊥) → n < 4
next_below t n h u = grind (arith, nat_tests)

-- what a find names goes on to one of the four tables
pub found_next : (ts : TablesOf) (t : ℕ) (k : List ℕ) (m : Match) → Forward 0 ts → t < length ts → found (table_of ts t) k ≡ Some m → (m.next ≡ 0 → ⊥) → m.next < 4
found_next ts t k m h l e u = next_below (0 + t) m.next (found_has (λ x. good_next (0 + t) x.next ≡ true) (table_of ts t) k m (forward_at 0 ts t h l) e) u

-- one table changed, through the owner's list
pub change_set : {X : Type 0} (f : X → List Rule) (F : List Rule → List Rule) (xs : List X) (t : ℕ) (x y : X) → t < length xs → f y ≡ F (f (get_or xs t x)) → map f (set xs t y) ≡ set (map f xs) t (F (table_of (map f xs) t))
change_set f F xs t x y l e =
    map-set f xs t y ∙ ap (λ rs. set (map f xs) t rs) (e ∙ ap F (sym (get_or-map f xs t x [] l)))

-- no table changed
pub same_set : {X : Type 0} (f : X → List Rule) (xs : List X) (t : ℕ) (x y : X) → t < length xs → f y ≡ f (get_or xs t x) → map f (set xs t y) ≡ map f xs
same_set f xs t x y l e = change_set f (λ rs. rs) xs t x y l e ∙ set-get_or (map f xs) t []

-- crediting one rule of a table
pub credit_set : {X : Type 0} (f : X → List Rule) (xs : List X) (t : ℕ) (x y : X) (i n : ℕ) → t < length xs → f y ≡ credited (f (get_or xs t x)) i n → map f (set xs t y) ≡ credit_at (map f xs) t i n
credit_set f xs t x y i n l e = change_set f (λ rs. credited rs i n) xs t x y l e
