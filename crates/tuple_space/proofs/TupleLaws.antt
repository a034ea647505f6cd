-- The tuples of some rules: what stays true of them as masks come and go and ranks change.
use Rattle.std.proofs.Common.{◌≡◌, ℕ, zero, suc, ◌<◌, Bool, true, false, cond, not, ◌&&◌, ◌||◌, ◌⊎◌, List, [], ◌∷◌, ◌++◌, length, get_or, set, filter, sym, refl, ap, ◌∙◌, subst, ap₂, inl, inr, ⊎_elim, arith}
use Rattle.std.specs.List as holes
use Rattle.std.specs.List.{AllByRecursion}
use Rattle.std.specs.Str.{bytes_eq}
use Rattle.std.proofs.lemmas.Bool.{cond-true, cond-false, cases_Bool, both_ways, and_parts, and_from, and_right, or_left, or_right, or_parts, or_from, not_from_true, not_from_false, not-true}
use Rattle.std.proofs.ByRecursion.{All-weaker}
use Rattle.std.proofs.lemmas.Slice.Eq.{bytes_eq-Decides}
use Rattle.tuple_space.specs.declared.ranked_mask.RankedMask.{RankedMask}
use Rattle.tuple_space.specs.Tuples.{masks_of, listed, rank_in, distinct}
use Rattle.tuple_space.proofs.Outcomes.{same_sym}
use Rattle.tuple_space.proofs.RuleLaws.{same_refl}

-- each tuple is listed, with its rank ---------------------------------------------------------------------------

pub each_listed : (ts : List RankedMask) → AllByRecursion (λ t. listed ts t.mask ≡ true) ts
unfolding listed
each_listed [] = tt
each_listed (t ∷ ts) = (
  or_left (bytes_eq t.mask t.mask) (listed ts t.mask) (same_refl t.mask),
  All-weaker (λ u. listed ts u.mask ≡ true) (λ u. listed (t ∷ ts) u.mask ≡ true) (λ u e. or_right (bytes_eq t.mask u.mask) (listed ts u.mask) e) ts (each_listed ts),
)

-- the first tuple's mask is not that of a later one
pub apart : (t : RankedMask) (ts : List RankedMask) (m : List ℕ) → distinct (t ∷ ts) ≡ true → listed ts m ≡ true → bytes_eq t.mask m ≡ false
unfolding distinct
apart t ts m d l =
    ⊎_elim (λ e. absurd (both_ways (listed ts t.mask) (not-true (listed ts t.mask) (and_parts (not (listed ts t.mask)) (distinct ts) d).0) (subst (λ n. listed ts n ≡ true) (sym ((bytes_eq-Decides t.mask m).0 e)) l))) (λ e. e)
    (cases_Bool (bytes_eq t.mask m))

pub rest_distinct : (t : RankedMask) (ts : List RankedMask) → distinct (t ∷ ts) ≡ true → distinct ts ≡ true
unfolding distinct
rest_distinct t ts d = (and_parts (not (listed ts t.mask)) (distinct ts) d).1

pub each_ranked : (ts : List RankedMask) → distinct ts ≡ true → AllByRecursion (λ t. rank_in ts t.mask ≡ t.rank) ts
unfolding rank_in
each_ranked [] d = tt
each_ranked (t ∷ ts) d = (
  cond-true (bytes_eq t.mask t.mask) t.rank (rank_in ts t.mask) (same_refl t.mask),
  later ts (each_listed ts) (each_ranked ts (rest_distinct t ts d)),
)
  where
    later : (us : List RankedMask) → AllByRecursion (λ u. listed ts u.mask ≡ true) us → AllByRecursion (λ u. rank_in ts u.mask ≡ u.rank) us → AllByRecursion (λ u. cond (bytes_eq t.mask u.mask) t.rank (rank_in ts u.mask) ≡ u.rank) us
    later [] l h = tt
    later (u ∷ us) l h =
        (cond-false (bytes_eq t.mask u.mask) t.rank (rank_in ts u.mask) (apart t ts u.mask d l.0) ∙ h.0, later us l.1 h.1)

-- the tuple of a mask ends a list ---------------------------------------------------------------------------------

pub listed_push : (ts : List RankedMask) (t : RankedMask) (m : List ℕ) → listed (ts ++ t ∷ []) m ≡ (bytes_eq t.mask m || listed ts m)
unfolding listed
listed_push [] t m = refl
listed_push (u ∷ ts) t m = ap (λ b. bytes_eq u.mask m || b) (listed_push ts t m) ∙ swap (bytes_eq u.mask m) (bytes_eq t.mask m) (listed ts m)
  where
    swap : (a b c : Bool) → (a || (b || c)) ≡ (b || (a || c))
    swap true true c = refl
    swap true false c = refl
    swap false b c = refl

-- where the mask is new
pub rank_push : (ts : List RankedMask) (t : RankedMask) (m : List ℕ) → listed ts t.mask ≡ false → rank_in (ts ++ t ∷ []) m ≡ cond (bytes_eq t.mask m) t.rank (rank_in ts m)
unfolding rank_in listed
rank_push [] t m h = refl
rank_push (u ∷ ts) t m h =
    let p = or_parts (bytes_eq u.mask t.mask) (listed ts t.mask) h in
    ap (λ n. cond (bytes_eq u.mask m) u.rank n) (rank_push ts t m p.1)
    ∙ swap (bytes_eq u.mask m) (bytes_eq t.mask m) (λ a b. both_ways (bytes_eq u.mask t.mask) p.0 ((bytes_eq-Decides u.mask t.mask).1 ((bytes_eq-Decides u.mask m).0 a ∙ sym ((bytes_eq-Decides t.mask m).0 b))))
  where
    swap : (a b : Bool) → (a ≡ true → b ≡ true → ⊥) → cond a u.rank (cond b t.rank (rank_in ts m)) ≡ cond b t.rank (cond a u.rank (rank_in ts m))
    swap true true n = absurd (n refl refl)
    swap true false n = refl
    swap false true n = refl
    swap false false n = refl

pub distinct_push : (ts : List RankedMask) (t : RankedMask) → listed ts t.mask ≡ false → distinct ts ≡ true → distinct (ts ++ t ∷ []) ≡ true
unfolding distinct listed
distinct_push [] t h d = refl
distinct_push (u ∷ ts) t h d =
    let p = or_parts (bytes_eq u.mask t.mask) (listed ts t.mask) h in
    let q = and_parts (not (listed ts u.mask)) (distinct ts) d in
    and_from (not (listed (ts ++ t ∷ []) u.mask)) (distinct (ts ++ t ∷ []))
    (not_from_false (listed (ts ++ t ∷ []) u.mask) (listed_push ts t u.mask ∙ or_from (bytes_eq t.mask u.mask) (listed ts u.mask) (turned p.0) (not-true (listed ts u.mask) q.0)))
    (distinct_push ts t p.1 q.1)
  where
    turned : bytes_eq u.mask t.mask ≡ false → bytes_eq t.mask u.mask ≡ false
    turned e = ⊎_elim (λ f. absurd (both_ways (bytes_eq u.mask t.mask) e (same_sym t.mask u.mask f))) (λ f. f) (cases_Bool (bytes_eq t.mask u.mask))

pub masks_push : (ts : List RankedMask) (t : RankedMask) → masks_of (ts ++ t ∷ []) ≡ masks_of ts ++ t.mask ∷ []
masks_push [] t = refl
masks_push (u ∷ ts) t = ap (λ ms. u.mask ∷ ms) (masks_push ts t)

-- a rank changes at a place -----------------------------------------------------------------------------------------

-- the tuple with the rank n in its place
abbrev pub with_rank : RankedMask → ℕ → RankedMask
with_rank t n = record { mask = t.mask; rank = n }

pub masks_set : (ts : List RankedMask) (j n : ℕ) (d : RankedMask) → j < length ts → masks_of (set ts j (with_rank (get_or ts j d) n)) ≡ masks_of ts
masks_set [] j n d l = absurd (omega arith)
masks_set (t ∷ ts) zero n d l = refl
masks_set (t ∷ ts) (suc j) n d l = ap (λ ms. t.mask ∷ ms) (masks_set ts j n d (omega arith))

pub listed_set : (ts : List RankedMask) (j n : ℕ) (d : RankedMask) (m : List ℕ) → j < length ts → listed (set ts j (with_rank (get_or ts j d) n)) m ≡ listed ts m
unfolding listed
listed_set [] j n d m l = absurd (omega arith)
listed_set (t ∷ ts) zero n d m l = refl
listed_set (t ∷ ts) (suc j) n d m l = ap (λ b. bytes_eq t.mask m || b) (listed_set ts j n d m (omega arith))

pub distinct_set : (ts : List RankedMask) (j n : ℕ) (d : RankedMask) → j < length ts → distinct (set ts j (with_rank (get_or ts j d) n)) ≡ distinct ts
unfolding distinct
distinct_set [] j n d l = absurd (omega arith)
distinct_set (t ∷ ts) zero n d l = refl
distinct_set (t ∷ ts) (suc j) n d l =
    ap₂ (λ a b. not a && b) (listed_set ts j n d t.mask (omega arith)) (distinct_set ts j n d (omega arith))

-- the tuple at a place is listed
pub listed_at : (ts : List RankedMask) (j : ℕ) (d : RankedMask) → j < length ts → listed ts (get_or ts j d).mask ≡ true
unfolding listed
listed_at [] j d l = absurd (omega arith)
listed_at (t ∷ ts) zero d l = or_left (bytes_eq t.mask t.mask) (listed ts t.mask) (same_refl t.mask)
listed_at (t ∷ ts) (suc j) d l = or_right (bytes_eq t.mask (get_or ts j d).mask) (listed ts (get_or ts j d).mask) (listed_at ts j d (omega arith))

-- of two tests that are not both true, either may come first
choose : (a b : Bool) (x y z : ℕ) → (a ≡ true → b ≡ true → ⊥) → cond a x (cond b y z) ≡ cond b y (cond a x z)
choose true true x y z n = absurd (n refl refl)
choose true false x y z n = refl
choose false true x y z n = refl
choose false false x y z n = refl

one_mask : (t : RankedMask) (ts : List RankedMask) (j : ℕ) (d : RankedMask) (m : List ℕ) → j < length ts → distinct (t ∷ ts) ≡ true → bytes_eq t.mask m ≡ true → bytes_eq (get_or ts j d).mask m ≡ true → ⊥
one_mask t ts j d m l q a b =
    both_ways (bytes_eq t.mask (get_or ts j d).mask) (apart t ts (get_or ts j d).mask q (listed_at ts j d l))
    ((bytes_eq-Decides t.mask (get_or ts j d).mask).1 ((bytes_eq-Decides t.mask m).0 a ∙ sym ((bytes_eq-Decides (get_or ts j d).mask m).0 b)))

twice : (a : Bool) (x y z : ℕ) → cond a x z ≡ cond a x (cond a y z)
twice true x y z = refl
twice false x y z = refl

pub rank_set : (ts : List RankedMask) (j n : ℕ) (d : RankedMask) (m : List ℕ) → j < length ts → distinct ts ≡ true → rank_in (set ts j (with_rank (get_or ts j d) n)) m ≡ cond (bytes_eq (get_or ts j d).mask m) n (rank_in ts m)
unfolding rank_in
rank_set [] j n d m l q = absurd (omega arith)
rank_set (t ∷ ts) zero n d m l q = twice (bytes_eq t.mask m) n t.rank (rank_in ts m)
rank_set (t ∷ ts) (suc j) n d m l q =
    ap (λ x. cond (bytes_eq t.mask m) t.rank x) (rank_set ts j n d m (omega arith) (rest_distinct t ts q))
    ∙ choose (bytes_eq t.mask m) (bytes_eq (get_or ts j d).mask m) t.rank n (rank_in ts m) (one_mask t ts j d m (omega arith) q)

-- a tuple leaves ------------------------------------------------------------------------------------------------------

-- a mask that is not listed has no rank
pub unlisted_rank : (ts : List RankedMask) (m : List ℕ) → listed ts m ≡ false → rank_in ts m ≡ 0
unfolding listed rank_in
unlisted_rank [] m h = refl
unlisted_rank (t ∷ ts) m h =
    let p = or_parts (bytes_eq t.mask m) (listed ts m) h in
    cond-false (bytes_eq t.mask m) t.rank (rank_in ts m) p.0 ∙ unlisted_rank ts m p.1

pub listed_removed : (ts : List RankedMask) (j : ℕ) (d : RankedMask) (m : List ℕ) → j < length ts → distinct ts ≡ true → listed (holes.remove ts j) m ≡ (not (bytes_eq (get_or ts j d).mask m) && listed ts m)
unfolding listed
listed_removed [] j d m l q = absurd (omega arith)
listed_removed (t ∷ ts) zero d m l q =
    ⊎_elim
    (λ e. first e (bytes_eq t.mask m) e)
    (λ e. ap (λ b. not b && (b || listed ts m)) (sym e)) (cases_Bool (bytes_eq t.mask m))
  where
    first : bytes_eq t.mask m ≡ true → (b : Bool) → b ≡ true → listed ts m ≡ (not b && (b || listed ts m))
    first e b f =
        gone e ∙ ap (λ c. not c && (c || listed ts m)) (sym f)
      where
        gone : bytes_eq t.mask m ≡ true → listed ts m ≡ false
        gone a = ⊎_elim (λ x. absurd (both_ways (bytes_eq t.mask m) (apart t ts m q x) a)) (λ x. x) (cases_Bool (listed ts m))
listed_removed (t ∷ ts) (suc j) d m l q =
    ap (λ b. bytes_eq t.mask m || b) (listed_removed ts j d m (omega arith) (rest_distinct t ts q))
    ∙ over (bytes_eq t.mask m) (bytes_eq (get_or ts j d).mask m) (listed ts m) (one_mask t ts j d m (omega arith) q)
  where
    over : (a b c : Bool) → (a ≡ true → b ≡ true → ⊥) → (a || (not b && c)) ≡ (not b && (a || c))
    over true true c n = absurd (n refl refl)
    over true false c n = refl
    over false b c n = refl

pub rank_removed : (ts : List RankedMask) (j : ℕ) (d : RankedMask) (m : List ℕ) → j < length ts → distinct ts ≡ true → rank_in (holes.remove ts j) m ≡ cond (bytes_eq (get_or ts j d).mask m) 0 (rank_in ts m)
unfolding rank_in
rank_removed [] j d m l q = absurd (omega arith)
rank_removed (t ∷ ts) zero d m l q =
    ⊎_elim
    (λ e. unlisted_rank ts m (gone e) ∙ sym (cond-true (bytes_eq t.mask m) 0 (cond (bytes_eq t.mask m) t.rank (rank_in ts m)) e))
    (λ e. sym (cond-false (bytes_eq t.mask m) 0 (cond (bytes_eq t.mask m) t.rank (rank_in ts m)) e ∙ cond-false (bytes_eq t.mask m) t.rank (rank_in ts m) e))
    (cases_Bool (bytes_eq t.mask m))
  where
    gone : bytes_eq t.mask m ≡ true → listed ts m ≡ false
    gone a = ⊎_elim (λ x. absurd (both_ways (bytes_eq t.mask m) (apart t ts m q x) a)) (λ x. x) (cases_Bool (listed ts m))
rank_removed (t ∷ ts) (suc j) d m l q =
    ap (λ x. cond (bytes_eq t.mask m) t.rank x) (rank_removed ts j d m (omega arith) (rest_distinct t ts q))
    ∙ choose (bytes_eq t.mask m) (bytes_eq (get_or ts j d).mask m) t.rank 0 (rank_in ts m) (one_mask t ts j d m (omega arith) q)

pub distinct_removed : (ts : List RankedMask) (j : ℕ) (d : RankedMask) → j < length ts → distinct ts ≡ true → distinct (holes.remove ts j) ≡ true
unfolding distinct
distinct_removed [] j d l q = absurd (omega arith)
distinct_removed (t ∷ ts) zero d l q = rest_distinct t ts q
distinct_removed (t ∷ ts) (suc j) d l q =
    let p = and_parts (not (listed ts t.mask)) (distinct ts) q in
    and_from (not (listed (holes.remove ts j) t.mask)) (distinct (holes.remove ts j))
    (not_from_false (listed (holes.remove ts j) t.mask) (listed_removed ts j d t.mask (omega arith) p.1 ∙ and_right (not (bytes_eq (get_or ts j d).mask t.mask)) (listed ts t.mask) (not-true (listed ts t.mask) p.0)))
    (distinct_removed ts j d (omega arith) p.1)

-- the masks without that of the place
pub masks_removed : (ts : List RankedMask) (j : ℕ) (d : RankedMask) → j < length ts → distinct ts ≡ true → masks_of (holes.remove ts j) ≡ filter (λ m. not (bytes_eq (get_or ts j d).mask m)) (masks_of ts)
masks_removed [] j d l q = absurd (omega arith)
masks_removed (t ∷ ts) zero d l q =
    sym (cond-false (not (bytes_eq t.mask t.mask)) (t.mask ∷ filter (λ m. not (bytes_eq t.mask m)) (masks_of ts)) (filter (λ m. not (bytes_eq t.mask m)) (masks_of ts)) (not_from_true (bytes_eq t.mask t.mask) (same_refl t.mask))
    ∙ all_left ts (each_listed ts))
  where
    all_left : (us : List RankedMask) → AllByRecursion (λ u. listed ts u.mask ≡ true) us → filter (λ m. not (bytes_eq t.mask m)) (masks_of us) ≡ masks_of us
    all_left [] h = refl
    all_left (u ∷ us) h =
        cond-true (not (bytes_eq t.mask u.mask)) (u.mask ∷ filter (λ m. not (bytes_eq t.mask m)) (masks_of us)) (filter (λ m. not (bytes_eq t.mask m)) (masks_of us)) (not_from_false (bytes_eq t.mask u.mask) (apart t ts u.mask q h.0))
        ∙ ap (λ ms. u.mask ∷ ms) (all_left us h.1)
masks_removed (t ∷ ts) (suc j) d l q =
    ap (λ ms. t.mask ∷ ms) (masks_removed ts j d (omega arith) (rest_distinct t ts q))
    ∙ sym (cond-true (not (bytes_eq (get_or ts j d).mask t.mask)) (t.mask ∷ filter (λ m. not (bytes_eq (get_or ts j d).mask m)) (masks_of ts)) (filter (λ m. not (bytes_eq (get_or ts j d).mask m)) (masks_of ts))
    (not_from_false (bytes_eq (get_or ts j d).mask t.mask) (other (cases_Bool (bytes_eq (get_or ts j d).mask t.mask)))))
  where
    other : (bytes_eq (get_or ts j d).mask t.mask ≡ true) ⊎ (bytes_eq (get_or ts j d).mask t.mask ≡ false) → bytes_eq (get_or ts j d).mask t.mask ≡ false
    other (inl e) = absurd (one_mask t ts j d t.mask (omega arith) q (same_refl t.mask) e)
    other (inr e) = e
