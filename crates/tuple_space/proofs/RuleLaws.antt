-- The masks and ranks of some rules, after the rules changed.
use Rattle.std.proofs.Common.{◌≡◌, ℕ, ◌<◌, ◌≤◌, Bool, true, false, cond, not, ◌||◌, eqb, ltb, List, [], ◌∷◌, Some, None, Option, sym, refl, ap, ◌∙◌, subst, ap₂, ⊎_elim, arith}
use Rattle.std.specs.List.{AllByRecursion}
use Rattle.std.specs.Str.{bytes_eq}
use Rattle.std.proofs.lemmas.Bool.{cond_both, cond-true, cond-false, cases_Bool, both_ways, ltb-true, ltb-false, le-ltb, lt-ltb, eqb-true, or_left, or_right, not_from_true, not_from_false}
use Rattle.std.proofs.ByRecursion.{All-weaker}
use Rattle.std.proofs.lemmas.Slice.Eq.{bytes_eq-Decides}
use Rattle.classifier.specs.declared.rule.Rule.{Rule}
use Rattle.classifier.specs.Rules.{Rising}
use Rattle.classifier.specs.Tables.{added, removed, raised, credited, stands, at_id, of_id}
use Rattle.classifier.specs.Stores.{by_id}
use Rattle.classifier.specs.ByIdLaws.{added_cases, removed_missing, stands_from_fresh}
use Rattle.tuple_space.specs.Tuples.{worn, larger, rank_of}

pub same_refl : (xs : List ℕ) → bytes_eq xs xs ≡ true
same_refl xs = (bytes_eq-Decides xs xs).1 refl

or_swap : (a b c : Bool) → (a || (b || c)) ≡ (b || (a || c))
or_swap true true c = refl
or_swap true false c = refl
or_swap false b c = refl

-- the larger of two numbers ------------------------------------------------------------------------------------

pub larger_left : (a b : ℕ) → a ≤ larger a b
larger_left a b = cond_both (ltb a b) b a (λ n. a ≤ n) (λ e. below (ltb-true a b e)) (λ e. omega arith)
  where
    below : a < b → a ≤ b
    below l = omega arith

pub larger_right : (a b : ℕ) → b ≤ larger a b
larger_right a b = cond_both (ltb a b) b a (λ n. b ≤ n) (λ e. omega arith) (λ e. ltb-false a b e)

pub larger_least : (a b n : ℕ) → a ≤ n → b ≤ n → larger a b ≤ n
larger_least a b n p q = cond_both (ltb a b) b a (λ x. x ≤ n) (λ _. q) (λ _. p)

pub larger_zero : (a : ℕ) → larger a 0 ≡ a
larger_zero a = cond-false (ltb a 0) 0 a (le-ltb a 0 (omega arith))

larger_comm : (a b : ℕ) → larger a b ≡ larger b a
larger_comm a b = equal (larger_least a b (larger b a) (larger_right b a) (larger_left b a)) (larger_least b a (larger a b) (larger_right a b) (larger_left a b))
  where
    equal : larger a b ≤ larger b a → larger b a ≤ larger a b → larger a b ≡ larger b a
    equal p q = omega arith

larger_swap : (a b c : ℕ) → larger a (larger b c) ≡ larger b (larger a c)
larger_swap a b c = equal (half a b) (half b a)
  where
    trans : (x y z : ℕ) → x ≤ y → y ≤ z → x ≤ z
    trans x y z p q = omega arith

    half : (x y : ℕ) → larger x (larger y c) ≤ larger y (larger x c)
    half x y =
        larger_least x (larger y c) (larger y (larger x c)) (trans x (larger x c) (larger y (larger x c)) (larger_left x c) (larger_right y (larger x c)))
        (larger_least y c (larger y (larger x c)) (larger_left y (larger x c)) (trans c (larger x c) (larger y (larger x c)) (larger_right x c) (larger_right y (larger x c))))

    equal : larger a (larger b c) ≤ larger b (larger a c) → larger b (larger a c) ≤ larger a (larger b c) → larger a (larger b c) ≡ larger b (larger a c)
    equal p q = omega arith

pub larger_assoc : (a b c : ℕ) → larger a (larger b c) ≡ larger (larger a b) c
larger_assoc a b c = ap (larger a) (larger_comm b c) ∙ larger_swap a c b ∙ larger_comm c (larger a b)

rank_swap : (s r : Bool) (a b c : ℕ) → cond s (larger a (cond r (larger b c) c)) (cond r (larger b c) c) ≡ cond r (larger b (cond s (larger a c) c)) (cond s (larger a c) c)
rank_swap true true a b c = larger_swap a b c
rank_swap true false a b c = refl
rank_swap false true a b c = refl
rank_swap false false a b c = refl

-- one rule more ------------------------------------------------------------------------------------------------

pub worn_added : (rs : List Rule) (r : Rule) (m : List ℕ) → worn (added rs r) m ≡ (bytes_eq r.mask m || worn rs m)
unfolding worn added
worn_added [] r m = refl
worn_added (s ∷ rs) r m =
    added_cases (λ ys. worn ys m ≡ (bytes_eq r.mask m || worn (s ∷ rs) m)) s rs r (λ _. refl)
    (λ _. ap (λ b. bytes_eq s.mask m || b) (worn_added rs r m) ∙ or_swap (bytes_eq s.mask m) (bytes_eq r.mask m) (worn rs m))

pub rank_added : (rs : List Rule) (r : Rule) (m : List ℕ) → rank_of (added rs r) m ≡ cond (bytes_eq r.mask m) (larger r.priority (rank_of rs m)) (rank_of rs m)
unfolding rank_of added
rank_added [] r m = refl
rank_added (s ∷ rs) r m =
    added_cases (λ ys. rank_of ys m ≡ cond (bytes_eq r.mask m) (larger r.priority (rank_of (s ∷ rs) m)) (rank_of (s ∷ rs) m)) s rs r (λ _. refl)
    (λ _. ap (λ n. cond (bytes_eq s.mask m) (larger s.priority n) n) (rank_added rs r m)
    ∙ rank_swap (bytes_eq s.mask m) (bytes_eq r.mask m) s.priority r.priority (rank_of rs m))

pub worn_by_id : (xs : List Rule) (m : List ℕ) → worn (by_id xs) m ≡ worn xs m
unfolding worn by_id
worn_by_id [] m = refl
worn_by_id (x ∷ xs) m = worn_added (by_id xs) x m ∙ ap (λ b. bytes_eq x.mask m || b) (worn_by_id xs m)

pub rank_by_id : (xs : List Rule) (m : List ℕ) → rank_of (by_id xs) m ≡ rank_of xs m
unfolding rank_of by_id
rank_by_id [] m = refl
rank_by_id (x ∷ xs) m =
    rank_added (by_id xs) x m ∙ ap (λ n. cond (bytes_eq x.mask m) (larger x.priority n) n) (rank_by_id xs m)

-- counts do not matter -------------------------------------------------------------------------------------------

credit_mask : (i n : ℕ) (r : Rule) → (cond (eqb r.id i) (raised n r) r).mask ≡ r.mask
credit_mask i n r = cond_both (eqb r.id i) (raised n r) r (λ s. s.mask ≡ r.mask) (λ _. refl) (λ _. refl)

credit_priority : (i n : ℕ) (r : Rule) → (cond (eqb r.id i) (raised n r) r).priority ≡ r.priority
credit_priority i n r = cond_both (eqb r.id i) (raised n r) r (λ s. s.priority ≡ r.priority) (λ _. refl) (λ _. refl)

pub worn_credited : (rs : List Rule) (i n : ℕ) (m : List ℕ) → worn (credited rs i n) m ≡ worn rs m
unfolding worn credited
worn_credited [] i n m = refl
worn_credited (r ∷ rs) i n m = ap₂ (λ x b. bytes_eq x m || b) (credit_mask i n r) (worn_credited rs i n m)

pub rank_credited : (rs : List Rule) (i n : ℕ) (m : List ℕ) → rank_of (credited rs i n) m ≡ rank_of rs m
unfolding rank_of credited
rank_credited [] i n m = refl
rank_credited (r ∷ rs) i n m =
    ap (λ x. cond (bytes_eq x m) (larger (cond (eqb r.id i) (raised n r) r).priority (rank_of (credited rs i n) m)) (rank_of (credited rs i n) m)) (credit_mask i n r)
    ∙ ap₂ (λ p b. cond (bytes_eq r.mask m) (larger p b) b) (credit_priority i n r) (rank_credited rs i n m)

-- each rule --------------------------------------------------------------------------------------------------------

pub each_worn : (rs : List Rule) → AllByRecursion (λ r. worn rs r.mask ≡ true) rs
unfolding worn
each_worn [] = tt
each_worn (r ∷ rs) = (
  or_left (bytes_eq r.mask r.mask) (worn rs r.mask) (same_refl r.mask),
  All-weaker (λ s. worn rs s.mask ≡ true) (λ s. worn (r ∷ rs) s.mask ≡ true) (λ s e. or_right (bytes_eq r.mask s.mask) (worn rs s.mask) e) rs (each_worn rs),
)

pub each_below : (rs : List Rule) (m : List ℕ) → AllByRecursion (λ r. bytes_eq r.mask m ≡ true → r.priority ≤ rank_of rs m) rs
unfolding rank_of
each_below [] m = tt
each_below (r ∷ rs) m =
    cond_both (bytes_eq r.mask m) (larger r.priority (rank_of rs m)) (rank_of rs m) (λ n. (bytes_eq r.mask m ≡ true → r.priority ≤ n) × AllByRecursion (λ s. bytes_eq s.mask m ≡ true → s.priority ≤ n) rs)
    (λ e. (
      (λ _. larger_left r.priority (rank_of rs m)),
      All-weaker (λ s. bytes_eq s.mask m ≡ true → s.priority ≤ rank_of rs m) (λ s. bytes_eq s.mask m ≡ true → s.priority ≤ larger r.priority (rank_of rs m))
          (λ s f t. trans s (f t) (larger_right r.priority (rank_of rs m))) rs (each_below rs m),
    ))
    (λ e. ((λ t. absurd (both_ways (bytes_eq r.mask m) e t)), each_below rs m))
  where
    trans : (s : Rule) → s.priority ≤ rank_of rs m → rank_of rs m ≤ larger r.priority (rank_of rs m) → s.priority ≤ larger r.priority (rank_of rs m)
    trans s p q = omega arith

-- one rule less --------------------------------------------------------------------------------------------------

abbrev Filled : {A : Type 0} → Option A → Type 0
Filled None = ⊥
Filled (Some x) = Unit {0}

-- a rule that an id names is one of the rules
pub named_has : (P : Rule → Type 0) (rs : List Rule) (i : ℕ) (out : Rule) → of_id rs i ≡ Some out → AllByRecursion P rs → P out × (out.id ≡ i)
unfolding at_id
named_has P [] i out e h = absurd (subst Filled (sym e) tt)
named_has P (r ∷ rs) i out e h =
    ⊎_elim (λ t. let q = some_is (cond-true (eqb r.id i) (Some r) (of_id rs i) t) in (subst P q h.0, ap (λ s. s.id) (sym q) ∙ eqb-true r.id i t))
    (λ f. named_has P rs i out (sym (cond-false (eqb r.id i) (Some r) (of_id rs i) f) ∙ e) h.1) (cases_Bool (eqb r.id i))
  where
    some_is : cond (eqb r.id i) (Some r) (of_id rs i) ≡ Some r → r ≡ out
    some_is q = search (q, e)

-- a rule that left, put back
pub removed_back : (rs : List Rule) (i : ℕ) (out : Rule) → Rising rs → of_id rs i ≡ Some out → added (removed rs i) out ≡ rs
unfolding at_id Rising removed added
removed_back [] i out h e = absurd (subst Filled (sym e) tt)
removed_back (r ∷ rs) i out h e =
    ⊎_elim
    (λ t. let q = first t in
    ap₂ added (cond-false (not (eqb r.id i)) (r ∷ removed rs i) (removed rs i) (not_from_true (eqb r.id i) t) ∙ removed_missing rs i (absent t)) (sym q)
    ∙ front rs r h.0)
    (λ f. let w = named_has (λ s. r.id < s.id) rs i out (rest f) h.0 in
    ap (λ ys. added ys out) (cond-true (not (eqb r.id i)) (r ∷ removed rs i) (removed rs i) (not_from_false (eqb r.id i) f))
    ∙ cond-false (ltb out.id r.id) (out ∷ r ∷ removed rs i) (r ∷ added (removed rs i) out) (le-ltb out.id r.id (below w.0))
    ∙ ap (λ ys. r ∷ ys) (removed_back rs i out h.1 (rest f)))
    (cases_Bool (eqb r.id i))
  where
    below : r.id < out.id → r.id ≤ out.id
    below l = omega arith

    first : eqb r.id i ≡ true → r ≡ out
    first t = search (cond-true (eqb r.id i) (Some r) (of_id rs i) t, e)

    rest : eqb r.id i ≡ false → of_id rs i ≡ Some out
    rest f = sym (cond-false (eqb r.id i) (Some r) (of_id rs i) f) ∙ e

    front : (ys : List Rule) (s : Rule) → AllByRecursion (λ y. s.id < y.id) ys → added ys s ≡ s ∷ ys
    front [] s g = refl
    front (y ∷ ys) s g = cond-true (ltb s.id y.id) (s ∷ y ∷ ys) (y ∷ added ys s) (lt-ltb s.id y.id g.0)

    absent : eqb r.id i ≡ true → stands rs i ≡ false
    absent t = subst (λ j. stands rs j ≡ false) (eqb-true r.id i t) (stands_from_fresh rs r (All-weaker (λ s. r.id < s.id) (λ s. r.id ≡ s.id → ⊥) (λ s l q. differ s l q) rs h.0))
      where
        differ : (s : Rule) → r.id < s.id → r.id ≡ s.id → ⊥
        differ s l q = omega arith

-- what is said of the rule that an id names
pub at_id_some : {X : Type 0} (f : Rule → X) (z : X) (rs : List Rule) (i : ℕ) (out : Rule) → of_id rs i ≡ Some out → at_id f z rs i ≡ f out
unfolding at_id
at_id_some f z [] i out e = absurd (subst Filled (sym e) tt)
at_id_some f z (r ∷ rs) i out e =
    ⊎_elim (λ t. cond-true (eqb r.id i) (f r) (at_id f z rs i) t ∙ ap f (first t))
    (λ u. cond-false (eqb r.id i) (f r) (at_id f z rs i) u ∙ at_id_some f z rs i out (sym (cond-false (eqb r.id i) (Some r) (of_id rs i) u) ∙ e)) (cases_Bool (eqb r.id i))
  where
    first : eqb r.id i ≡ true → r ≡ out
    first t = search (cond-true (eqb r.id i) (Some r) (of_id rs i) t, e)
