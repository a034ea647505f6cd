-- Counts that grow: the laws of crediting one rule, and one table.
use Rattle.std.proofs.Common.{◌≡◌, ℕ, ◌^◌, ◌<◌, Bool, true, false, cond, eqb, ltb, List, [], ◌∷◌, IfSome, Some, None, Option, sym, refl, ap, ◌∙◌, subst, ap₂, arith}
use Rattle.std.specs.Option.{option_map}
use Rattle.std.specs.List.{AllByRecursion}
use Rattle.classifier.specs.declared.rule.Rule.{Rule}
use Rattle.classifier.specs.declared.rule.Match.{Match}
use Rattle.classifier.specs.Rules.{matches, higher, best, named, found}
use Rattle.classifier.specs.Tables.{plus, raised, credited}

-- a rule with another count
abbrev pub counted : Rule → ℕ → Rule
counted r c = record { id = r.id; priority = r.priority; mask = r.mask; value = r.value; ports = r.ports; next = r.next; count = c }

-- a rule after n more for the rule of this id
abbrev pub bump : ℕ → ℕ → Rule → Rule
bump i n r = cond (eqb r.id i) (raised n r) r

bump_count : (i n : ℕ) (r : Rule) → bump i n r ≡ counted r (cond (eqb r.id i) (plus r.count n) r.count)
bump_count i n r = elim (eqb r.id i) as (λ b. cond b (raised n r) r ≡ counted r (cond b (plus r.count n) r.count)) [ true ↦ refl | false ↦ refl ]

two : (a b : Bool) (n m : ℕ) (r : Rule) → cond b (raised m (cond a (raised n r) r)) (cond a (raised n r) r) ≡ counted r (cond b (plus (cond a (plus r.count n) r.count) m) (cond a (plus r.count n) r.count))
two true true n m r = refl
two true false n m r = refl
two false true n m r = refl
two false false n m r = refl

same_id : (i n : ℕ) (r : Rule) → (bump i n r).id ≡ r.id
same_id i n r = elim (eqb r.id i) as (λ b. (cond b (raised n r) r).id ≡ r.id) [ true ↦ refl | false ↦ refl ]

bump_bump : (i n j m : ℕ) (r : Rule) → bump j m (bump i n r) ≡ counted r (cond (eqb r.id j) (plus (cond (eqb r.id i) (plus r.count n) r.count) m) (cond (eqb r.id i) (plus r.count n) r.count))
bump_bump i n j m r =
    ap (λ x. cond (eqb x j) (raised m (bump i n r)) (bump i n r)) (same_id i n r) ∙ two (eqb r.id i) (eqb r.id j) n m r

bump_swap : (i n j m : ℕ) (r : Rule) → bump j m (bump i n r) ≡ bump i n (bump j m r)
bump_swap i n j m r = bump_bump i n j m r ∙ ap (counted r) (go (eqb r.id i) (eqb r.id j)) ∙ sym (bump_bump j m i n r)
  where
    go : (a b : Bool) → cond b (plus (cond a (plus r.count n) r.count) m) (cond a (plus r.count n) r.count) ≡ cond a (plus (cond b (plus r.count m) r.count) n) (cond b (plus r.count m) r.count)
    go true true = omega arith
    go true false = refl
    go false true = refl
    go false false = refl

bump_join : (i n m : ℕ) (r : Rule) → bump i m (bump i n r) ≡ bump i (plus n m) r
bump_join i n m r = bump_bump i n i m r ∙ ap (counted r) (go (eqb r.id i)) ∙ sym (bump_count i (plus n m) r)
  where
    go : (a : Bool) → cond a (plus (cond a (plus r.count n) r.count) m) (cond a (plus r.count n) r.count) ≡ cond a (plus r.count (plus n m)) r.count
    go true = omega arith
    go false = refl

bump_none : (i : ℕ) (r : Rule) → r.count < 2 ^ 64 → bump i 0 r ≡ r
bump_none i r h = bump_count i 0 r ∙ ap (counted r) (go (eqb r.id i))
  where
    go : (a : Bool) → cond a (plus r.count 0) r.count ≡ r.count
    go true = omega arith
    go false = refl

pub credited_swap : (rs : List Rule) (i n j m : ℕ) → credited (credited rs i n) j m ≡ credited (credited rs j m) i n
unfolding credited
credited_swap [] i n j m = refl
credited_swap (r ∷ rs) i n j m = ap₂ ◌∷◌ (bump_swap i n j m r) (credited_swap rs i n j m)

pub credited_join : (rs : List Rule) (i n m : ℕ) → credited (credited rs i n) i m ≡ credited rs i (plus n m)
unfolding credited
credited_join [] i n m = refl
credited_join (r ∷ rs) i n m = ap₂ ◌∷◌ (bump_join i n m r) (credited_join rs i n m)

pub credited_none : (rs : List Rule) (i : ℕ) → AllByRecursion (λ r. r.count < 2 ^ 64) rs → credited rs i 0 ≡ rs
unfolding credited
credited_none [] i h = refl
credited_none (r ∷ rs) i h = ap₂ ◌∷◌ (bump_none i r h.0) (credited_none rs i h.1)

-- a find does not look at counts
matches_bump : (i n : ℕ) (r : Rule) (k : List ℕ) → matches (bump i n r) k ≡ matches r k
unfolding matches
matches_bump i n r k = elim (eqb r.id i) as (λ b. matches (cond b (raised n r) r) k ≡ matches r k) [ true ↦ refl | false ↦ refl ]

higher_bump : (i n : ℕ) (r : Rule) (o : Option Rule) → higher (bump i n r) (option_map (bump i n) o) ≡ option_map (bump i n) (higher r o)
higher_bump i n r None = refl
higher_bump i n r (Some s) = prio ∙ pull (ltb s.priority r.priority)
  where
    same : (x : Rule) → (bump i n x).priority ≡ x.priority
    same x = elim (eqb x.id i) as (λ b. (cond b (raised n x) x).priority ≡ x.priority) [ true ↦ refl | false ↦ refl ]

    prio : cond (ltb (bump i n s).priority (bump i n r).priority) (Some (bump i n r)) (Some (bump i n s)) ≡ cond (ltb s.priority r.priority) (Some (bump i n r)) (Some (bump i n s))
    prio = ap₂ (λ a b. cond (ltb a b) (Some (bump i n r)) (Some (bump i n s))) (same s) (same r)

    pull : (b : Bool) → cond b (Some (bump i n r)) (Some (bump i n s)) ≡ option_map (bump i n) (cond b (Some r) (Some s))
    pull true = refl
    pull false = refl

best_credited : (rs : List Rule) (i n : ℕ) (k : List ℕ) → best (credited rs i n) k ≡ option_map (bump i n) (best rs k)
unfolding best credited
best_credited [] i n k = refl
best_credited (r ∷ rs) i n k =
    ap₂ (λ b o. cond b (higher (bump i n r) o) o) (matches_bump i n r k) (best_credited rs i n k) ∙ go (matches r k)
  where
    go : (b : Bool) → cond b (higher (bump i n r) (option_map (bump i n) (best rs k))) (option_map (bump i n) (best rs k)) ≡ option_map (bump i n) (cond b (higher r (best rs k)) (best rs k))
    go true = higher_bump i n r (best rs k)
    go false = refl

named_bump : (i n : ℕ) (o : Option Rule) → option_map named (option_map (bump i n) o) ≡ option_map named o
named_bump i n None = refl
named_bump i n (Some r) = elim (eqb r.id i) as (λ b. Some (named (cond b (raised n r) r)) ≡ Some (named r)) [ true ↦ refl | false ↦ refl ]

pub found_credited : (rs : List Rule) (i n : ℕ) (k : List ℕ) → found (credited rs i n) k ≡ found rs k
unfolding found
found_credited rs i n k = ap (option_map named) (best_credited rs i n k) ∙ named_bump i n (best rs k)

-- what holds of each rule holds of the found one
higher_keeps : (P : Rule → Type 0) (r : Rule) (o : Option Rule) → P r → IfSome o P → IfSome (higher r o) P
higher_keeps P r None p q = p
higher_keeps P r (Some s) p q = elim (ltb s.priority r.priority) as (λ b. IfSome (cond b (Some r) (Some s)) P) [ true ↦ p | false ↦ q ]

best_keeps : (P : Rule → Type 0) (rs : List Rule) (k : List ℕ) → AllByRecursion P rs → IfSome (best rs k) P
unfolding best
best_keeps P [] k h = tt
best_keeps P (r ∷ rs) k h =
    elim (matches r k) as (λ b. IfSome (cond b (higher r (best rs k)) (best rs k)) P) [ true ↦ higher_keeps P r (best rs k) h.0 (best_keeps P rs k h.1) | false ↦ best_keeps P rs k h.1 ]

pub found_has : (P : Match → Type 0) (rs : List Rule) (k : List ℕ) (m : Match) → AllByRecursion (λ r. P (named r)) rs → found rs k ≡ Some m → P m
unfolding found
found_has P rs k m h e = go (best rs k) (best_keeps (λ r. P (named r)) rs k h) e
  where
    go : (o : Option Rule) → IfSome o (λ r. P (named r)) → option_map named o ≡ Some m → P m
    go None c f = let z : ◌≡◌ {A = ℕ} 0 1 = cc in absurd (omega arith)
    go (Some r) c f = let z : named r ≡ m = cc in subst P z c
