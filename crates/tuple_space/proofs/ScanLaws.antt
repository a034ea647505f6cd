-- The steps of searches through tuples.
use Rattle.std.proofs.Common.{◌≡◌, ℕ, ◌+◌, ◌<◌, ◌≤◌, Bool, false, cond, ◌||◌, ltb, List, [], ◌∷◌, length, get_or, drop, Some, None, Option, MatchOption, Decides, sym, refl, ap, ◌∙◌, ⊎_elim, arith}
use Rattle.std.specs.List.{insert, position, AllByRecursion}
use Rattle.std.specs.Option.{unwrap_or}
use Rattle.flow.proofs.Firsts.{none_passes, first_passes}
use Rattle.std.specs.Str.{bytes_eq}
use Rattle.std.proofs.lemmas.List.{at_drop_more, at_drop_all}
use Rattle.std.proofs.lemmas.Bool.Decides.{nat_tests}
use Rattle.std.proofs.lemmas.Bool.{both_ways, cases_Bool}
use Rattle.std.proofs.lemmas.Slice.Eq.{bytes_eq-Decides}
use Rattle.classifier.specs.Inserts.{put, inserted_put, inserted_last}
use Rattle.tuple_space.specs.declared.ranked_mask.RankedMask.{RankedMask}
use Rattle.tuple_space.specs.Tuples.{larger, listed}
use Rattle.tuple_space.specs.Visits.{placed, ordered}

-- where the tuple of a mask stands, or that there is none
pub place_from : (ts : List RankedMask) (m : List ℕ) (o : Option ℕ) → position (λ t. bytes_eq t.mask m) ts ≡ o → MatchOption o (listed ts m ≡ false) (λ j. (j < length ts) × ((d : RankedMask) → (get_or ts j d).mask ≡ m))
unfolding listed
place_from ts m None e = none ts (none_passes (λ t. bytes_eq t.mask m) ts e)
  where
    none : (us : List RankedMask) → AllByRecursion (λ t. bytes_eq t.mask m ≡ false) us → listed us m ≡ false
    none [] h = refl
    none (u ∷ us) h = ap (λ b. b || listed us m) h.0 ∙ none us h.1
place_from ts m (Some j) e =
    let f = first_passes (λ t. bytes_eq t.mask m) ts j (record { mask = []; rank = 0 }) e in
    (f.within, λ d. (bytes_eq-Decides (get_or ts j d).mask m).0 (f.passes d))

-- the larger of two numbers is their maximum
pub max_larger : (a b : ℕ) → Prim.Native.Nat.max a b ≡ larger b a
max_larger a b = grind (arith, nat_tests)

-- the order of visits is one by a test
abbrev ahead : RankedMask → RankedMask → Bool
ahead t u = ltb u.rank t.rank

placed_put : (us : List RankedMask) (t : RankedMask) → placed us t ≡ put ahead us t
unfolding placed
placed_put [] t = refl
placed_put (u ∷ us) t = ap (λ ys. cond (ltb u.rank t.rank) (t ∷ u ∷ us) (u ∷ ys)) (placed_put us t)

-- before the first of lower rank, or at the end
pub inserted_placed : (us : List RankedMask) (t : RankedMask) (o : Option ℕ) → position (λ u. ltb u.rank t.rank) us ≡ o → insert us (unwrap_or o (length us)) t ≡ placed us t
inserted_placed us t None e = inserted_last ahead us t (none_passes (λ u. ltb u.rank t.rank) us e) ∙ sym (placed_put us t)
inserted_placed us t (Some i) e =
    let f = first_passes (λ u. ltb u.rank t.rank) us i t e in
    inserted_put ahead us i t f.within f.before f.passes ∙ sym (placed_put us t)

-- that place is none behind the end
pub placed_within : (us : List RankedMask) (t : RankedMask) (o : Option ℕ) → position (λ u. ltb u.rank t.rank) us ≡ o → unwrap_or o (length us) ≤ length us
placed_within us t None e = omega arith
placed_within us t (Some i) e = omega (arith, (first_passes (λ u. ltb u.rank t.rank) us i t e).within)

pub not_same : (xs ys : List ℕ) (r : Bool) → Decides r (xs ≡ ys) → r ≡ false → bytes_eq xs ys ≡ false
not_same xs ys r d f = ⊎_elim (λ t. absurd (both_ways r f (d.1 ((bytes_eq-Decides xs ys).0 t)))) (λ t. t) (cases_Bool (bytes_eq xs ys))

pub ordered_next : (vs ys ts : List RankedMask) (i : ℕ) (t d : RankedMask) (w : List RankedMask) → i < length ts → t ≡ get_or ts i d → ys ≡ placed vs t → ordered vs (drop i ts) ≡ w → ordered ys (drop (i + 1) ts) ≡ w
unfolding ordered
ordered_next vs ys ts i t d w l r e f =
    ap (λ x. ordered x (drop (i + 1) ts)) (e ∙ ap (placed vs) r) ∙ sym (at_drop_more (ordered vs) ts i d l) ∙ f

pub ordered_end : (vs ts : List RankedMask) (i : ℕ) (w : List RankedMask) → length ts ≤ i → ordered vs (drop i ts) ≡ w → vs ≡ w
unfolding ordered
ordered_end vs ts i w l f = sym (at_drop_all (ordered vs) ts i l) ∙ f

pub same_test : (xs ys : List ℕ) (r : Bool) → Decides r (xs ≡ ys) → r ≡ bytes_eq xs ys
same_test xs ys r d =
    ⊎_elim (λ t. t ∙ sym ((bytes_eq-Decides xs ys).1 (d.0 t))) (λ f. f ∙ sym (not_same xs ys r d f)) (cases_Bool r)
