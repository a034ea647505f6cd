-- The order of visits, and how many tuples there are.
use Rattle.std.proofs.Common.{◌≡◌, ℕ, suc, ◌+◌, ◌<◌, ◌≤◌, Bool, true, false, not, ◌&&◌, ◌||◌, eqb, ltb, ◌⊎◌, List, [], ◌∷◌, map, length, filter, sym, refl, ap, ◌∙◌, subst, ap₂, inl, inr, ⊎_elim, arith}
use Rattle.std.specs.List.{ContainsAt, AllByRecursion}
use Rattle.std.specs.Str.{bytes_eq}
use Rattle.std.proofs.lemmas.Bool.{cond_both, cond-true, cases_Bool, both_ways, and_parts, and_from, or_cases, or_parts, or_from, true≢false, not_from_false, not-true, not-false, ltb-true, ltb-false, eqb-true, eq-eqb}
use Rattle.std.proofs.ByRecursion.{All-weaker, all-has, all_kept_by, kept_by_passes}
use Rattle.std.proofs.lemmas.Slice.Eq.{bytes_eq-Decides}
use Rattle.classifier.specs.declared.rule.Rule.{Rule}
use Rattle.classifier.specs.Inserts.{Pairs, all_both}
use Rattle.tuple_space.specs.declared.ranked_mask.RankedMask.{RankedMask}
use Rattle.tuple_space.specs.Tuples.{worn, rank_of, masks_of, tuple_of, listed, rank_in, distinct, same_tuples, TuplesOf}
use Rattle.tuple_space.specs.Visits.{placed, ordered, visit_order}
use Rattle.tuple_space.proofs.Outcomes.{same_sym, InOrder}
use Rattle.tuple_space.proofs.RuleLaws.{same_refl, each_worn, each_below}
use Rattle.tuple_space.proofs.TupleLaws.{each_listed, each_ranked, apart, rest_distinct}

-- a tuple in its place --------------------------------------------------------------------------------------------

pub all_placed : (P : RankedMask → Type 0) (us : List RankedMask) (t : RankedMask) → AllByRecursion P us → P t → AllByRecursion P (placed us t)
unfolding placed
all_placed P [] t h p = (p, tt)
all_placed P (u ∷ us) t h p =
    cond_both (ltb u.rank t.rank) (t ∷ u ∷ us) (u ∷ placed us t) (AllByRecursion P) (λ _. (p, h)) (λ _. (h.0, all_placed P us t h.1 p))

pub length_placed : (us : List RankedMask) (t : RankedMask) → length (placed us t) ≡ suc (length us)
unfolding placed
length_placed [] t = refl
length_placed (u ∷ us) t =
    cond_both (ltb u.rank t.rank) (t ∷ u ∷ us) (u ∷ placed us t) (λ ys. length ys ≡ suc (suc (length us))) (λ _. refl) (λ _. ap suc (length_placed us t))

falling_placed : (us : List RankedMask) (t : RankedMask) → Pairs (λ a b. b.rank ≤ a.rank) us → Pairs (λ a b. b.rank ≤ a.rank) (placed us t)
unfolding placed
falling_placed [] t h = (tt, tt)
falling_placed (u ∷ us) t h =
    cond_both (ltb u.rank t.rank) (t ∷ u ∷ us) (u ∷ placed us t) (Pairs (λ a b. b.rank ≤ a.rank))
    (λ e. let l = ltb-true u.rank t.rank e in ((low l, All-weaker (λ b. b.rank ≤ u.rank) (λ b. b.rank ≤ t.rank) (λ b p. down b p l) us h.0), h))
    (λ e. (all_placed (λ b. b.rank ≤ u.rank) us t h.0 (ltb-false u.rank t.rank e), falling_placed us t h.1))
  where
    low : u.rank < t.rank → u.rank ≤ t.rank
    low l = omega arith

    down : (b : RankedMask) → b.rank ≤ u.rank → u.rank < t.rank → b.rank ≤ t.rank
    down b p l = omega arith

listed_placed : (us : List RankedMask) (t : RankedMask) (m : List ℕ) → listed (placed us t) m ≡ (bytes_eq t.mask m || listed us m)
unfolding placed listed
listed_placed [] t m = refl
listed_placed (u ∷ us) t m =
    cond_both (ltb u.rank t.rank) (t ∷ u ∷ us) (u ∷ placed us t) (λ ys. listed ys m ≡ (bytes_eq t.mask m || listed (u ∷ us) m)) (λ _. refl)
    (λ _. ap (λ b. bytes_eq u.mask m || b) (listed_placed us t m) ∙ swap (bytes_eq u.mask m) (bytes_eq t.mask m) (listed us m))
  where
    swap : (a b c : Bool) → (a || (b || c)) ≡ (b || (a || c))
    swap true true c = refl
    swap true false c = refl
    swap false b c = refl

-- all in their places -----------------------------------------------------------------------------------------------

pub all_ordered : (P : RankedMask → Type 0) (us ts : List RankedMask) → AllByRecursion P us → AllByRecursion P ts → AllByRecursion P (ordered us ts)
unfolding ordered
all_ordered P us [] h k = h
all_ordered P us (t ∷ ts) h k = all_ordered P (placed us t) ts (all_placed P us t h k.0) k.1

pub length_ordered : (us ts : List RankedMask) → length (ordered us ts) ≡ length us + length ts
unfolding ordered
length_ordered us [] = omega arith
length_ordered us (t ∷ ts) = length_ordered (placed us t) ts ∙ ap (λ n. n + length ts) (length_placed us t) ∙ omega arith

falling_ordered : (us ts : List RankedMask) → Pairs (λ a b. b.rank ≤ a.rank) us → Pairs (λ a b. b.rank ≤ a.rank) (ordered us ts)
unfolding ordered
falling_ordered us [] h = h
falling_ordered us (t ∷ ts) h = falling_ordered (placed us t) ts (falling_placed us t h)

listed_ordered : (us ts : List RankedMask) (m : List ℕ) → listed (ordered us ts) m ≡ (listed ts m || listed us m)
unfolding ordered listed
listed_ordered us [] m = refl
listed_ordered us (t ∷ ts) m =
    listed_ordered (placed us t) ts m ∙ ap (λ b. listed ts m || b) (listed_placed us t m)
    ∙ turn (listed ts m) (bytes_eq t.mask m) (listed us m)
  where
    turn : (a b c : Bool) → (a || (b || c)) ≡ ((b || a) || c)
    turn true true c = refl
    turn true false c = refl
    turn false true c = refl
    turn false false c = refl

or_none : (b : Bool) → (b || false) ≡ b
or_none true = refl
or_none false = refl

pub listed_in_order : (ts : List RankedMask) (m : List ℕ) → listed (ordered [] ts) m ≡ listed ts m
unfolding listed
listed_in_order ts m = listed_ordered [] ts m ∙ or_none (listed ts m)

-- the tuples of some rules, in the order of visits --------------------------------------------------------------------

pub each_rank : (rs : List Rule) (ts : List RankedMask) → TuplesOf rs ts → AllByRecursion (λ t. rank_of rs t.mask ≡ t.rank) ts
each_rank rs ts k =
    All-weaker (λ t. rank_in ts t.mask ≡ t.rank) (λ t. rank_of rs t.mask ≡ t.rank) (λ t e. sym (k.ranks t.mask) ∙ e) ts (each_ranked ts k.once)

pub each_worn_tuple : (rs : List Rule) (ts : List RankedMask) → TuplesOf rs ts → AllByRecursion (λ t. worn rs t.mask ≡ true) ts
each_worn_tuple rs ts k =
    All-weaker (λ t. listed ts t.mask ≡ true) (λ t. worn rs t.mask ≡ true) (λ t e. sym (k.masks t.mask) ∙ e) ts (each_listed ts)

pub visit_order_is : (rs : List Rule) (ts : List RankedMask) → TuplesOf rs ts → visit_order rs (masks_of ts) ≡ ordered [] ts
visit_order_is rs ts k = ap (ordered []) (whole ts (each_rank rs ts k))
  where
    whole : (us : List RankedMask) → AllByRecursion (λ t. rank_of rs t.mask ≡ t.rank) us → map (tuple_of rs) (masks_of us) ≡ us
    whole [] h = refl
    whole (u ∷ us) h = ap₂ (λ n ys. record { mask = u.mask; rank = n } ∷ ys) h.0 (whole us h.1)

pub in_order : (rs : List Rule) (ts : List RankedMask) → TuplesOf rs ts → InOrder rs (ordered [] ts)
in_order rs ts k =
    record {
      falling = falling_ordered [] ts tt;
      bound = all_ordered (λ t. (r : Rule) → ContainsAt rs r → bytes_eq r.mask t.mask ≡ true → r.priority ≤ t.rank) [] ts tt
          (All-weaker (λ t. rank_of rs t.mask ≡ t.rank) (λ t. (r : Rule) → ContainsAt rs r → bytes_eq r.mask t.mask ≡ true → r.priority ≤ t.rank)
          (λ t e r h s. subst (λ n. r.priority ≤ n) e (all-has (λ r. bytes_eq r.mask t.mask ≡ true → r.priority ≤ rank_of rs t.mask) rs r (each_below rs t.mask) h s)) ts (each_rank rs ts k));
    }

pub all_listed : (rs : List Rule) (ts : List RankedMask) → TuplesOf rs ts → (r : Rule) → ContainsAt rs r → listed (ordered [] ts) r.mask ≡ true
all_listed rs ts k r h = listed_in_order ts r.mask ∙ k.masks r.mask ∙ all-has (λ r. worn rs r.mask ≡ true) rs r (each_worn rs) h

-- two lists that pass the test are the same -----------------------------------------------------------------------------

pub same_tuples_means : (ts us : List RankedMask) → same_tuples ts us ≡ true → ts ≡ us
unfolding same_tuples
same_tuples_means [] [] e = refl
same_tuples_means [] (u ∷ us) e = absurd (true≢false (sym e))
same_tuples_means (t ∷ ts) [] e = absurd (true≢false (sym e))
same_tuples_means (t ∷ ts) (u ∷ us) e =
    let p = and_parts (bytes_eq t.mask u.mask && eqb t.rank u.rank) (same_tuples ts us) e in
    let q = and_parts (bytes_eq t.mask u.mask) (eqb t.rank u.rank) p.0 in
    ap₂ (λ x xs. x ∷ xs) (ap₂ (λ m n. record { mask = m; rank = n }) ((bytes_eq-Decides t.mask u.mask).0 q.0) (eqb-true t.rank u.rank q.1)) (same_tuples_means ts us p.1)

each : (xs : List RankedMask) → same_tuples xs xs ≡ true
unfolding same_tuples
each [] = refl
each (x ∷ xs) =
    and_from (bytes_eq x.mask x.mask && eqb x.rank x.rank) (same_tuples xs xs)
    (and_from (bytes_eq x.mask x.mask) (eqb x.rank x.rank) (same_refl x.mask) (eq-eqb x.rank x.rank refl)) (each xs)

pub same_tuples_refl : (ts us : List RankedMask) → ts ≡ us → same_tuples ts us ≡ true
same_tuples_refl ts us e = subst (λ vs. same_tuples ts vs ≡ true) e (itself ts)
  where
    itself : (xs : List RankedMask) → same_tuples xs xs ≡ true
    itself xs = each xs

-- there are at most as many tuples as rules -------------------------------------------------------------------------------

-- those of another mask
abbrev others : List RankedMask → List ℕ → List RankedMask
others ts m = filter (λ t. not (bytes_eq t.mask m)) ts

one_less : (ts : List RankedMask) (m : List ℕ) → distinct ts ≡ true → length ts ≤ suc (length (others ts m))
one_less [] m d = omega arith
one_less (t ∷ ts) m d =
    cond_both (not (bytes_eq t.mask m)) (t ∷ others ts m) (others ts m) (λ ys. suc (length ts) ≤ suc (length ys)) (λ _. up (one_less ts m (rest_distinct t ts d)))
    (λ e. same (ap length (whole (not-false (bytes_eq t.mask m) e) ts (each_listed ts))))
  where
    up : length ts ≤ suc (length (others ts m)) → suc (length ts) ≤ suc (suc (length (others ts m)))
    up l = omega arith

    same : length (others ts m) ≡ length ts → suc (length ts) ≤ suc (length (others ts m))
    same e = omega arith

    whole : bytes_eq t.mask m ≡ true → (us : List RankedMask) → AllByRecursion (λ u. listed ts u.mask ≡ true) us → others us m ≡ us
    whole e [] h = refl
    whole e (u ∷ us) h =
        cond-true (not (bytes_eq u.mask m)) (u ∷ others us m) (others us m) (not_from_false (bytes_eq u.mask m) (differ (cases_Bool (bytes_eq u.mask m)))) ∙ ap (λ ys. u ∷ ys) (whole e us h.1)
      where
        differ : (bytes_eq u.mask m ≡ true) ⊎ (bytes_eq u.mask m ≡ false) → bytes_eq u.mask m ≡ false
        differ (inl f) =
            absurd (both_ways (bytes_eq t.mask u.mask) (apart t ts u.mask d h.0) ((bytes_eq-Decides t.mask u.mask).1 ((bytes_eq-Decides t.mask m).0 e ∙ sym ((bytes_eq-Decides u.mask m).0 f))))
        differ (inr f) = f

unlisted_kept : (p : RankedMask → Bool) (ts : List RankedMask) (m : List ℕ) → listed ts m ≡ false → listed (filter p ts) m ≡ false
unfolding listed
unlisted_kept p [] m h = refl
unlisted_kept p (t ∷ ts) m h =
    let q = or_parts (bytes_eq t.mask m) (listed ts m) h in
    cond_both (p t) (t ∷ filter p ts) (filter p ts) (λ ys. listed ys m ≡ false) (λ _. or_from (bytes_eq t.mask m) (listed (filter p ts) m) q.0 (unlisted_kept p ts m q.1))
    (λ _. unlisted_kept p ts m q.1)

distinct_kept : (p : RankedMask → Bool) (ts : List RankedMask) → distinct ts ≡ true → distinct (filter p ts) ≡ true
unfolding distinct
distinct_kept p [] d = refl
distinct_kept p (t ∷ ts) d =
    let q = and_parts (not (listed ts t.mask)) (distinct ts) d in
    cond_both (p t) (t ∷ filter p ts) (filter p ts) (λ ys. distinct ys ≡ true)
    (λ _. and_from (not (listed (filter p ts) t.mask)) (distinct (filter p ts)) (not_from_false (listed (filter p ts) t.mask) (unlisted_kept p ts t.mask (not-true (listed ts t.mask) q.0))) (distinct_kept p ts q.1))
    (λ _. distinct_kept p ts q.1)

pub few_tuples : (rs : List Rule) (ts : List RankedMask) → distinct ts ≡ true → AllByRecursion (λ t. worn rs t.mask ≡ true) ts → length ts ≤ length rs
unfolding worn
few_tuples [] [] d h = omega arith
few_tuples [] (t ∷ ts) d h = absurd (true≢false (sym h.0))
few_tuples (r ∷ rs) ts d h =
    steps (one_less ts r.mask d)
    (few_tuples rs (others ts r.mask) (distinct_kept (λ t. not (bytes_eq t.mask r.mask)) ts d)
    (All-weaker (λ t. (worn (r ∷ rs) t.mask ≡ true) × (not (bytes_eq t.mask r.mask) ≡ true)) (λ t. worn rs t.mask ≡ true) (λ t w. still t w.0 w.1) (others ts r.mask)
    (all_both (λ t. worn (r ∷ rs) t.mask ≡ true) (λ t. not (bytes_eq t.mask r.mask) ≡ true) (others ts r.mask) (all_kept_by (λ t. not (bytes_eq t.mask r.mask)) (λ t. worn (r ∷ rs) t.mask ≡ true) ts h)
    (kept_by_passes (λ t. not (bytes_eq t.mask r.mask)) ts))))
  where
    steps : length ts ≤ suc (length (others ts r.mask)) → length (others ts r.mask) ≤ length rs → length ts ≤ suc (length rs)
    steps p q = omega arith

    still : (t : RankedMask) → (bytes_eq r.mask t.mask || worn rs t.mask) ≡ true → not (bytes_eq t.mask r.mask) ≡ true → worn rs t.mask ≡ true
    still t e f =
        ⊎_elim (λ s. absurd (both_ways (bytes_eq t.mask r.mask) (not-true (bytes_eq t.mask r.mask) f) (same_sym r.mask t.mask s))) (λ s. s) (or_cases (bytes_eq r.mask t.mask) (worn rs t.mask) e)
