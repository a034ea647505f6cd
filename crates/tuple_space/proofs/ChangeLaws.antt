-- The tuples stay those of the rules as rules come and go.
use Rattle.std.proofs.Common.{◌≡◌, ℕ, zero, suc, ◌+◌, ◌<◌, ◌≤◌, Bool, true, false, cond, not, ◌&&◌, ◌||◌, List, [], ◌∷◌, ◌++◌, length, get_or, drop, set, Some, None, filter, Option, sym, refl, ap, ◌∙◌, subst, ap₂, ⊎_elim, arith}
use Rattle.std.specs.List as holes
use Rattle.std.specs.Str.{bytes_eq}
use Rattle.std.proofs.lemmas.List.{length-set, length-append, at_drop_more, at_drop_all}
use Rattle.std.proofs.lemmas.Bool.{cond-true, cond-false, cases_Bool, or_parts}
use Rattle.std.proofs.ByRecursion.{All-get_or}
use Rattle.std.proofs.lemmas.Slice.Eq.{bytes_eq-Decides}
use Rattle.classifier.specs.declared.rule.Rule.{Rule}
use Rattle.classifier.specs.Tables.{added, credited}
use Rattle.tuple_space.specs.declared.ranked_mask.RankedMask.{RankedMask}
use Rattle.tuple_space.specs.Tuples.{worn, larger, rank_of, masks_of, listed, rank_in, distinct, TuplesOf, arrived, remaining}
use Rattle.tuple_space.specs.Changes.{Came, Went, rank_left}
use Rattle.tuple_space.specs.Visits.{topmost}
use Rattle.tuple_space.proofs.RuleLaws.{larger_zero, larger_assoc, worn_added, rank_added, worn_credited, rank_credited}
use Rattle.tuple_space.proofs.TupleLaws.{with_rank, each_ranked, listed_push, rank_push, distinct_push, masks_push, masks_set, listed_set, distinct_set, listed_at, rank_set, unlisted_rank, listed_removed, rank_removed, distinct_removed, masks_removed}

-- the rules of a mask's tuple
pub unworn_rank : (rs : List Rule) (m : List ℕ) → worn rs m ≡ false → rank_of rs m ≡ 0
unfolding worn rank_of
unworn_rank [] m h = refl
unworn_rank (r ∷ rs) m h =
    let p = or_parts (bytes_eq r.mask m) (worn rs m) h in
    cond-false (bytes_eq r.mask m) (larger r.priority (rank_of rs m)) (rank_of rs m) p.0 ∙ unworn_rank rs m p.1

-- of a mask that is the same, what holds of the one holds of the other
moved : {X : Type 0} (f : List ℕ → X) (m n : List ℕ) (x : X) → bytes_eq m n ≡ true → f m ≡ x → f n ≡ x
moved f m n x s e = subst (λ y. f y ≡ x) ((bytes_eq-Decides m n).0 s) e

-- the rank of the tuple at a place
rank_at : (ts : List RankedMask) (j : ℕ) (d : RankedMask) → j < length ts → distinct ts ≡ true → rank_in ts (get_or ts j d).mask ≡ (get_or ts j d).rank
rank_at ts j d l q = All-get_or (λ t. rank_in ts t.mask ≡ t.rank) ts j d l (each_ranked ts q)

-- a rule comes -----------------------------------------------------------------------------------------------------

-- its mask stands at place j
pub came_old : (ts : List RankedMask) (j p : ℕ) (d : RankedMask) (m : List ℕ) → j < length ts → distinct ts ≡ true → (get_or ts j d).mask ≡ m → Came ts (set ts j (with_rank (get_or ts j d) (larger p (get_or ts j d).rank))) m p
came_old ts j p d m l q e =
    let t = get_or ts j d in
    let there = subst (λ x. listed ts x ≡ true) e (listed_at ts j d l) in
    record {
      masks = λ n. listed_set ts j (larger p t.rank) d n l ∙ ⊎_elim (λ s. moved (listed ts) m n true s there ∙ sym (ap (λ b. b || listed ts n) s)) (λ s. sym (ap (λ b. b || listed ts n) s)) (cases_Bool (bytes_eq m n));
      ranks = λ n. rank_set ts j (larger p t.rank) d n l q ∙ ap (λ x. cond (bytes_eq x n) (larger p t.rank) (rank_in ts n)) e
          ∙ ⊎_elim (λ s. ap (λ r. cond (bytes_eq m n) (larger p r) (rank_in ts n)) (sym (moved (rank_in ts) m n t.rank s (subst (λ x. rank_in ts x ≡ t.rank) e (rank_at ts j d l q)))))
          (λ s. cond-false (bytes_eq m n) (larger p t.rank) (rank_in ts n) s ∙ sym (cond-false (bytes_eq m n) (larger p (rank_in ts n)) (rank_in ts n) s)) (cases_Bool (bytes_eq m n));
      once = distinct_set ts j (larger p t.rank) d l ∙ q;
      arrivals = masks_set ts j (larger p t.rank) d l ∙ sym (cond-true (listed ts m) (masks_of ts) (masks_of ts ++ m ∷ []) there);
      few = subst (λ n. n ≤ suc (length ts)) (sym (length-set ts j (with_rank t (larger p t.rank)))) (omega arith);
    }

-- the same, of the tuple as it was read there
pub came_at : (ts : List RankedMask) (j p n : ℕ) (m : List ℕ) (t : RankedMask) → j < length ts → distinct ts ≡ true → ((d : RankedMask) → (get_or ts j d).mask ≡ m) → t ≡ get_or ts j t → n ≡ larger p t.rank → Came ts (set ts j (record { mask = t.mask; rank = n })) m p
came_at ts j p n m t l q e f g =
    subst (λ x. Came ts (set ts j x) m p) (ap₂ (λ u k. with_rank u k) (sym f) (ap (λ u. larger p u.rank) (sym f) ∙ sym g)) (came_old ts j p t m l q (e t))

-- its mask is new
pub came_new : (ts : List RankedMask) (p : ℕ) (m : List ℕ) → distinct ts ≡ true → listed ts m ≡ false → Came ts (ts ++ record { mask = m; rank = p } ∷ []) m p
came_new ts p m q h =
    record {
      masks = λ n. listed_push ts (record { mask = m; rank = p }) n;
      ranks = λ n. rank_push ts (record { mask = m; rank = p }) n h
          ∙ ⊎_elim (λ s. ap (λ r. cond (bytes_eq m n) r (rank_in ts n)) (sym (ap (larger p) (unlisted_rank ts n (moved (listed ts) m n false s h)) ∙ larger_zero p)))
          (λ s. cond-false (bytes_eq m n) p (rank_in ts n) s ∙ sym (cond-false (bytes_eq m n) (larger p (rank_in ts n)) (rank_in ts n) s)) (cases_Bool (bytes_eq m n));
      once = distinct_push ts (record { mask = m; rank = p }) h q;
      arrivals = masks_push ts (record { mask = m; rank = p }) ∙ sym (cond-false (listed ts m) (masks_of ts) (masks_of ts ++ m ∷ []) h);
      few = subst (λ n. n ≤ suc (length ts)) (sym (length-append ts (record { mask = m; rank = p } ∷ []))) (omega arith);
    }

pub tuples_came : (rs : List Rule) (r : Rule) (ts us : List RankedMask) → TuplesOf rs ts → Came ts us r.mask r.priority → TuplesOf (added rs r) us
tuples_came rs r ts us t c =
    record {
      masks = λ n. c.masks n ∙ ap (λ b. bytes_eq r.mask n || b) (t.masks n) ∙ sym (worn_added rs r n);
      ranks = λ n. c.ranks n ∙ ap (λ x. cond (bytes_eq r.mask n) (larger r.priority x) x) (t.ranks n) ∙ sym (rank_added rs r n);
      once = c.once;
    }

pub arrivals_came : (rs : List Rule) (r : Rule) (ts us : List RankedMask) → TuplesOf rs ts → Came ts us r.mask r.priority → masks_of us ≡ arrived (masks_of ts) rs r.mask
arrivals_came rs r ts us t c = c.arrivals ∙ ap (λ b. cond b (masks_of ts) (masks_of ts ++ r.mask ∷ [])) (t.masks r.mask)

-- a rule goes ------------------------------------------------------------------------------------------------------

-- its mask at place j stays
pub went_some : (ts : List RankedMask) (j n : ℕ) (d : RankedMask) (m : List ℕ) → j < length ts → distinct ts ≡ true → (get_or ts j d).mask ≡ m → Went ts (set ts j (with_rank (get_or ts j d) n)) m (Some n)
went_some ts j n d m l q e =
    record {
      masks = λ x. listed_set ts j n d x l;
      ranks = λ x. rank_set ts j n d x l q ∙ ap (λ y. cond (bytes_eq y x) n (rank_in ts x)) e;
      once = distinct_set ts j n d l ∙ q;
      arrivals = masks_set ts j n d l;
      few = subst (λ k. k ≤ length ts) (sym (length-set ts j (with_rank (get_or ts j d) n))) (omega arith);
    }

pub went_at : (ts : List RankedMask) (j n : ℕ) (m : List ℕ) (t : RankedMask) → j < length ts → distinct ts ≡ true → ((d : RankedMask) → (get_or ts j d).mask ≡ m) → t ≡ get_or ts j t → Went ts (set ts j (record { mask = t.mask; rank = n })) m (Some n)
went_at ts j n m t l q e f =
    subst (λ x. Went ts (set ts j x) m (Some n)) (ap (λ u. with_rank u n) (sym f)) (went_some ts j n t m l q (e t))

fewer : (us : List RankedMask) (i : ℕ) → i < length us → length (holes.remove us i) ≤ length us
fewer [] i k = absurd (omega arith)
fewer (u ∷ us) zero k = omega arith
fewer (u ∷ us) (suc i) k = up (fewer us i (omega arith))
  where
    up : length (holes.remove us i) ≤ length us → suc (length (holes.remove us i)) ≤ suc (length us)
    up l = omega arith

-- its mask at place j leaves
pub went_none : (ts : List RankedMask) (j : ℕ) (d : RankedMask) (m : List ℕ) → j < length ts → distinct ts ≡ true → (get_or ts j d).mask ≡ m → Went ts (holes.remove ts j) m None
went_none ts j d m l q e =
    record {
      masks = λ x. listed_removed ts j d x l q ∙ ap (λ y. not (bytes_eq y x) && listed ts x) e;
      ranks = λ x. rank_removed ts j d x l q ∙ ap (λ y. cond (bytes_eq y x) 0 (rank_in ts x)) e;
      once = distinct_removed ts j d l q;
      arrivals = masks_removed ts j d l q ∙ ap (λ y. filter (λ x. not (bytes_eq y x)) (masks_of ts)) e;
      few = fewer ts j l;
    }

pub tuples_went : (rs : List Rule) (r : Rule) (ts us : List RankedMask) → TuplesOf (added rs r) ts → Went ts us r.mask (rank_left rs r.mask) → TuplesOf rs us
tuples_went rs r ts us t w =
    ⊎_elim
    (λ h. let v = subst (Went ts us r.mask) (cond-true (worn rs r.mask) (Some (rank_of rs r.mask)) None h) w in
    record {
      masks = λ n. v.masks n ∙ was n ∙ ⊎_elim (λ s. ap (λ b. b || worn rs n) s ∙ sym (moved (worn rs) r.mask n true s h)) (λ s. ap (λ b. b || worn rs n) s) (cases_Bool (bytes_eq r.mask n));
      ranks = λ n. v.ranks n ∙ ⊎_elim (λ s. cond-true (bytes_eq r.mask n) (rank_of rs r.mask) (rank_in ts n) s ∙ ap (rank_of rs) ((bytes_eq-Decides r.mask n).0 s)) (λ s. rest n (rank_of rs r.mask) s) (cases_Bool (bytes_eq r.mask n));
      once = v.once;
    })
    (λ h. let v = subst (Went ts us r.mask) (cond-false (worn rs r.mask) (Some (rank_of rs r.mask)) None h) w in
    record {
      masks = λ n. v.masks n ∙ ap (λ b. not (bytes_eq r.mask n) && b) (was n)
          ∙ ⊎_elim (λ s. ap (λ b. not b && (b || worn rs n)) s ∙ sym (moved (worn rs) r.mask n false s h)) (λ s. ap (λ b. not b && (b || worn rs n)) s) (cases_Bool (bytes_eq r.mask n));
      ranks = λ n. v.ranks n ∙ ⊎_elim (λ s. cond-true (bytes_eq r.mask n) 0 (rank_in ts n) s ∙ sym (unworn_rank rs n (moved (worn rs) r.mask n false s h))) (λ s. rest n 0 s) (cases_Bool (bytes_eq r.mask n));
      once = v.once;
    })
    (cases_Bool (worn rs r.mask))
  where
    was : (n : List ℕ) → listed ts n ≡ (bytes_eq r.mask n || worn rs n)
    was n = t.masks n ∙ worn_added rs r n

    rest : (n : List ℕ) (x : ℕ) → bytes_eq r.mask n ≡ false → cond (bytes_eq r.mask n) x (rank_in ts n) ≡ rank_of rs n
    rest n x s =
        cond-false (bytes_eq r.mask n) x (rank_in ts n) s ∙ t.ranks n ∙ rank_added rs r n
        ∙ cond-false (bytes_eq r.mask n) (larger r.priority (rank_of rs n)) (rank_of rs n) s

pub arrivals_went : (rs : List Rule) (m : List ℕ) (ts us : List RankedMask) → Went ts us m (rank_left rs m) → masks_of us ≡ remaining (masks_of ts) rs m
arrivals_went rs m ts us w =
    ⊎_elim
    (λ h. (subst (Went ts us m) (cond-true (worn rs m) (Some (rank_of rs m)) None h) w).arrivals ∙ sym (cond-true (worn rs m) (masks_of ts) (filter (λ x. not (bytes_eq m x)) (masks_of ts)) h))
    (λ h. (subst (Went ts us m) (cond-false (worn rs m) (Some (rank_of rs m)) None h) w).arrivals ∙ sym (cond-false (worn rs m) (masks_of ts) (filter (λ x. not (bytes_eq m x)) (masks_of ts)) h))
    (cases_Bool (worn rs m))

-- counts do not matter ---------------------------------------------------------------------------------------------

pub tuples_credited : (rs : List Rule) (i n : ℕ) (ts : List RankedMask) → TuplesOf rs ts → TuplesOf (credited rs i n) ts
tuples_credited rs i n ts t =
    record {
      masks = λ m. t.masks m ∙ sym (worn_credited rs i n m);
      ranks = λ m. t.ranks m ∙ sym (rank_credited rs i n m);
      once = t.once;
    }

pub tuples_none : (rs : List Rule) (ts : List RankedMask) → rs ≡ [] → ts ≡ [] → TuplesOf rs ts
unfolding worn rank_of listed rank_in distinct
tuples_none rs ts e f = subst (λ xs. TuplesOf xs ts) (sym e) (subst (TuplesOf []) (sym f) (record { masks = λ m. refl; ranks = λ m. refl; once = refl }))

-- the rank of the rules that are left, one after the other -------------------------------------------------------------

rank_left_more : (r : Rule) (rs : List Rule) (m : List ℕ) → rank_left (r ∷ rs) m ≡ cond (bytes_eq r.mask m) (topmost (Some r.priority) (rank_left rs m)) (rank_left rs m)
unfolding worn rank_of
rank_left_more r rs m = by (bytes_eq r.mask m) (worn rs m) (λ w. unworn_rank rs m w)
  where
    by : (s w : Bool) → (w ≡ false → rank_of rs m ≡ 0) → cond (s || w) (Some (cond s (larger r.priority (rank_of rs m)) (rank_of rs m))) None ≡ cond s (topmost (Some r.priority) (cond w (Some (rank_of rs m)) None)) (cond w (Some (rank_of rs m)) None)
    by true true h = refl
    by true false h = ap Some (ap (larger r.priority) (h refl) ∙ larger_zero r.priority)
    by false true h = refl
    by false false h = refl

topmost_assoc : (a : Option ℕ) (p : ℕ) (c : Option ℕ) → topmost a (topmost (Some p) c) ≡ topmost (topmost a (Some p)) c
topmost_assoc None p c = refl
topmost_assoc (Some a) p None = refl
topmost_assoc (Some a) p (Some c) = ap Some (larger_assoc a p c)

pub rank_left_next : (rs : List Rule) (i : ℕ) (m : List ℕ) (top n w : Option ℕ) (d : Rule) → i < length rs → n ≡ cond (bytes_eq (get_or rs i d).mask m) (topmost top (Some (get_or rs i d).priority)) top → topmost top (rank_left (drop i rs) m) ≡ w → topmost n (rank_left (drop (i + 1) rs) m) ≡ w
rank_left_next rs i m top n w d l g e =
    let r = get_or rs i d in
    ap (λ x. topmost x (rank_left (drop (i + 1) rs) m)) g ∙ by (bytes_eq r.mask m) r.priority (rank_left (drop (i + 1) rs) m)
    ∙ sym (ap (topmost top) (at_drop_more (λ ys. rank_left ys m) rs i d l ∙ rank_left_more r (drop (i + 1) rs) m))
    ∙ e
  where
    by : (s : Bool) (p : ℕ) (rest : Option ℕ) → topmost (cond s (topmost top (Some p)) top) rest ≡ topmost top (cond s (topmost (Some p) rest) rest)
    by true p rest = sym (topmost_assoc top p rest)
    by false p rest = refl

pub rank_left_end : (rs : List Rule) (i : ℕ) (m : List ℕ) (top w : Option ℕ) → length rs ≤ i → topmost top (rank_left (drop i rs) m) ≡ w → top ≡ w
unfolding worn
rank_left_end rs i m top w l e = sym (none top) ∙ sym (ap (topmost top) (at_drop_all (λ ys. rank_left ys m) rs i l)) ∙ e
  where
    none : (o : Option ℕ) → topmost o None ≡ o
    none None = refl
    none (Some p) = refl
