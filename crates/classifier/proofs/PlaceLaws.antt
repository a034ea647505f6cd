-- The facts about a place of a store, from the rule that stands there.
use Rattle.std.proofs.Common.{◌≡◌, ℕ, zero, suc, ◌<◌, ◌≤◌, true, false, List, [], ◌∷◌, ◌++◌, length, get_or, take, drop, take_all, Some, None, Option, nat_le, MatchOption, Bool, ◌&&◌, ◌||◌, cond, eqb, sym, refl, ap, ap₂, ◌∙◌, subst, arith}
use Rattle.std.specs.List as holes
use Rattle.std.specs.Option.{option_map, unwrap_or}
use Rattle.std.specs.List.{AllByRecursion, position, find, list_any}
use Rattle.std.proofs.lemmas.Bool.{cond-true, cond-false, eqb-true, or_right, le-leb, lt-leb}
use Rattle.std.proofs.ByRecursion.{All-get_or}
use Rattle.flow.specs.Masks.{union, empty_mask}
use Rattle.flow.proofs.WholeLaws.{empty_union}
use Rattle.flow.proofs.Firsts.{none_passes, first_passes}
use Rattle.classifier.specs.declared.rule.Rule.{Rule}
use Rattle.classifier.specs.Rules.{found, named, clashing, FindMask}
use Rattle.classifier.specs.Tables.{stands, clash, add_refusal, added, removed, credited, missing_refusal, clash_refusal}
use Rattle.classifier.specs.Stores.{by_id, before, ranked, standing, sound_test, StandsAt, first_match, looked_at, linear_mask}
use Rattle.classifier.specs.Places.{Absent, Placed, admission}
use Rattle.classifier.specs.Inserts.{Pairs}
use Rattle.classifier.specs.ByIdLaws.{Other, stands_by_id, by_id_remove, by_id_credit, credited_at, credited_missing, at_id_by_id, at_id_place}
use Rattle.classifier.specs.RankLaws.{by_id_ranked, inserted_ranked, inserted_ranked_last, found_by_id, looked_long, linear_mask_by_id, find_mask_looked}
use Rattle.classifier.specs.LawsLemmas.{admitted}
use Rattle.classifier.specs.StandingLaws.{stored_from_test, test_from_stored, sound_from_test, stored_ranked, stored_removed, stored_credited, add_refusal_stored}

-- what stands where there is no rule
no_rule : Rule
no_rule = record { id = 0; priority = 0; mask = []; value = []; ports = 0; next = 0; count = 0 }

pub absent_from : (xs : List Rule) (i : ℕ) → stands xs i ≡ false → Absent xs i
unfolding missing_refusal
absent_from xs i h =
    let e = stands_by_id xs i ∙ h in
    record {
      refused = cond-false (stands (by_id xs) i) None (Some (12, i)) e;
      unpaid_kept = λ n. credited_missing xs i n h;
      unpaid = λ n. credited_missing (by_id xs) i n e;
    }

-- the rule at place p out
by_id_out : (xs : List Rule) (p : ℕ) (d : Rule) → p < length xs → Pairs Other xs → by_id (holes.remove xs p) ≡ removed (by_id xs) (get_or xs p d).id
by_id_out xs p d h o =
    by_id_remove (take p xs) (drop (suc p) xs) (get_or xs p d) (front xs p h o) (back xs p h o)
    ∙ ap (λ ys. removed (by_id ys) (get_or xs p d).id) (whole xs p h)
  where
    whole : (ys : List Rule) (q : ℕ) → q < length ys → take q ys ++ get_or ys q d ∷ drop (suc q) ys ≡ ys
    whole [] q l = absurd (omega arith)
    whole (y ∷ ys) zero l = refl
    whole (y ∷ ys) (suc q) l = ap (λ zs. y ∷ zs) (whole ys q (omega arith))

    front : (ys : List Rule) (q : ℕ) → q < length ys → Pairs Other ys → AllByRecursion (Other (get_or ys q d)) (take q ys)
    front [] q l w = absurd (omega arith)
    front (y ∷ ys) zero l w = tt
    front (y ∷ ys) (suc q) l w = ((λ e. All-get_or (Other y) ys q d (omega arith) w.0 (sym e)), front ys q (omega arith) w.1)

    back : (ys : List Rule) (q : ℕ) → q < length ys → Pairs Other ys → AllByRecursion (Other (get_or ys q d)) (drop (suc q) ys)
    back [] q l w = absurd (omega arith)
    back (y ∷ ys) zero l w = w.0
    back (y ∷ ys) (suc q) l w = back ys q (omega arith) w.1

pub placed_from : (xs : List Rule) (i p : ℕ) (e : Rule) → standing xs ≡ true → StandsAt xs i p → Placed xs i p
unfolding missing_refusal
placed_from xs i p e ok s =
    let t = stored_from_test xs ok in
    let at = λ (n : ℕ) (d : Rule). credited_at xs p i n t.other s.within s.there d in
    record {
      within = s.within;
      present = cond-true (stands (by_id xs) i) None (Some (12, i)) (stands_by_id xs i ∙ s.test);
      counts = λ d. sym (at_id_by_id (λ r. r.count) 0 xs i t.other ∙ at_id_place (λ r. r.count) 0 xs p i t.other s.within s.there d);
      found = λ d. at_id_by_id Some None xs i t.other ∙ at_id_place Some None xs p i t.other s.within s.there d;
      taken = subst (λ j. by_id (holes.remove xs p) ≡ removed (by_id xs) j) (s.there e) (by_id_out xs p e s.within t.other);
      taken_stands = test_from_stored (holes.remove xs p) (stored_removed xs p s.within t);
      paid_kept = λ n d. sym (at n d);
      paid = λ n d. ap by_id (sym (at n d)) ∙ by_id_credit xs i n;
      paid_stands = λ n d. subst (λ ys. standing ys ≡ true) (at n d) (test_from_stored (credited xs i n) (stored_credited xs i n t));
    }

-- the place of an id, or that it has none
pub place_from : (xs : List Rule) (i : ℕ) (o : Option ℕ) → standing xs ≡ true → o ≡ position (λ r. eqb r.id i) xs → MatchOption o (Absent xs i) (λ p. Placed xs i p)
unfolding stands
place_from xs i None ok e = absent_from xs i (stands_none xs (none_passes (λ r. eqb r.id i) xs (sym e)))
  where
    stands_none : (ys : List Rule) → AllByRecursion (λ r. eqb r.id i ≡ false) ys → stands ys i ≡ false
    stands_none [] h = refl
    stands_none (y ∷ ys) h = ap (λ b. b || stands ys i) h.0 ∙ stands_none ys h.1
place_from xs i (Some p) ok e =
    let f = first_passes (λ r. eqb r.id i) xs p no_rule (sym e) in
    placed_from xs i p no_rule ok
    (record { within = f.within; there = λ d. eqb-true (get_or xs p d).id i (f.passes d); test = stands_at xs p f.within (f.passes no_rule) })
  where
    stands_at : (ys : List Rule) (q : ℕ) → q < length ys → eqb (get_or ys q no_rule).id i ≡ true → stands ys i ≡ true
    stands_at [] q l h = absurd (omega arith)
    stands_at (y ∷ ys) zero l h = ap (λ b. b || stands ys i) h
    stands_at (y ∷ ys) (suc q) l h = or_right (eqb y.id i) (stands ys i) (stands_at ys q (omega arith) h)

-- why a new rule may not stand --------------------------------------------------------------------------------

stands_any : (xs : List Rule) (i : ℕ) → stands xs i ≡ list_any (λ r. eqb r.id i) xs
unfolding stands
stands_any [] i = refl
stands_any (x ∷ xs) i = ap (λ b. eqb x.id i || b) (stands_any xs i)

clash_find : (xs : List Rule) (new : Rule) → clash xs new ≡ option_map (λ r. r.id) (find (λ r. eqb r.priority new.priority && clashing r new) xs)
unfolding clash
clash_find [] new = refl
clash_find (x ∷ xs) new = step (clash_find xs new) (eqb x.priority new.priority && clashing x new)
  where
    step : (clash xs new ≡ option_map (λ r. r.id) (find (λ r. eqb r.priority new.priority && clashing r new) xs)) → (b : Bool) → cond b (Some x.id) (clash xs new) ≡ option_map (λ r. r.id) (cond b (Some x) (find (λ r. eqb r.priority new.priority && clashing r new) xs))
    step e true = refl
    step e false = e

-- by the three tests of the store: an id that stands, 64 rules, a clash
pub asked : (xs : List Rule) (new : Rule) → standing xs ≡ true → add_refusal (by_id xs) new ≡ admission (list_any (λ r. eqb r.id new.id) xs) (length xs) (option_map (λ r. r.id) (find (λ r. eqb r.priority new.priority && clashing r new) xs)) new
unfolding add_refusal
asked xs new ok =
    add_refusal_stored xs new (stored_from_test xs ok)
    ∙ ap₂ (λ b o. admission b (length xs) o new) (stands_any xs new.id) (clash_find xs new)

pub refused_stands : (xs : List Rule) (new : Rule) → standing xs ≡ true → list_any (λ r. eqb r.id new.id) xs ≡ true → add_refusal (by_id xs) new ≡ Some (9, new.id)
refused_stands xs new ok e =
    asked xs new ok ∙ ap (λ b. admission b (length xs) (option_map (λ r. r.id) (find (λ r. eqb r.priority new.priority && clashing r new) xs)) new) e

pub refused_full : (xs : List Rule) (new : Rule) → standing xs ≡ true → list_any (λ r. eqb r.id new.id) xs ≡ false → 64 ≤ length xs → add_refusal (by_id xs) new ≡ Some (10, 64)
refused_full xs new ok e h =
    let o = option_map (λ r. r.id) (find (λ r. eqb r.priority new.priority && clashing r new) xs) in
    asked xs new ok ∙ ap (λ b. admission b (length xs) o new) e
    ∙ cond-true (nat_le 64 (length xs)) (Some (10, 64)) (clash_refusal o) (le-leb 64 (length xs) h)

pub refused_clash : (xs : List Rule) (new : Rule) (o : Option Rule) → standing xs ≡ true → list_any (λ r. eqb r.id new.id) xs ≡ false → length xs < 64 → find (λ r. eqb r.priority new.priority && clashing r new) xs ≡ o → add_refusal (by_id xs) new ≡ clash_refusal (option_map (λ r. r.id) o)
refused_clash xs new o ok e h f =
    asked xs new ok ∙ ap₂ (λ b p. admission b (length xs) (option_map (λ r. r.id) p) new) e f
    ∙ cond-false (nat_le 64 (length xs)) (Some (10, 64)) (clash_refusal (option_map (λ r. r.id) o)) (lt-leb 64 (length xs) h)

-- what an insertion at the place of the rank makes
pub record Grown (xs ys : List Rule) (new : Rule) : Type 0 where
  pub rules : by_id ys ≡ added (by_id xs) new
  pub stands_still : standing ys ≡ true

pub grown_from : (xs ys : List Rule) (new : Rule) → standing xs ≡ true → sound_test new ≡ true → add_refusal (by_id xs) new ≡ None → ys ≡ ranked xs new → Grown xs ys new
grown_from xs ys new ok sd h e =
    let t = stored_from_test xs ok in
    let a = admitted xs new (sym (add_refusal_stored xs new t) ∙ h) in
    record {
      rules = ap by_id e ∙ by_id_ranked xs new a.fresh;
      stands_still = subst (λ zs. standing zs ≡ true) (sym e) (test_from_stored (ranked xs new) (stored_ranked xs new t (sound_from_test new sd) a.fresh a.room a.alone));
    }

-- what an insertion at the place of the rank keeps: the first place that the new rule goes before, or the end
pub record GrownAt (xs : List Rule) (new : Rule) (p : ℕ) : Type 0 where
  pub within : p ≤ length xs
  pub rules : by_id (holes.insert xs p new) ≡ added (by_id xs) new
  pub stands_still : standing (holes.insert xs p new) ≡ true

pub grown_at : (xs : List Rule) (new : Rule) (o : Option ℕ) → standing xs ≡ true → sound_test new ≡ true → add_refusal (by_id xs) new ≡ None → position (before new) xs ≡ o → GrownAt xs new (unwrap_or o (length xs))
grown_at xs new None ok sd h e =
    let all = subst (AllByRecursion (λ s. before new s ≡ false)) (sym (take_all (length xs) xs (omega arith))) (none_passes (before new) xs e) in
    let g = grown_from xs _ new ok sd h (inserted_ranked_last xs (length xs) new refl all) in
    record { within = omega arith; rules = g.rules; stands_still = g.stands_still }
grown_at xs new (Some i) ok sd h e =
    let f = first_passes (before new) xs i no_rule e in
    let g = grown_from xs _ new ok sd h (inserted_ranked xs i new no_rule f.within f.before (f.passes no_rule)) in
    record { within = omega (arith, f.within); rules = g.rules; stands_still = g.stands_still }

-- what a search down the order finds
pub record Looked (xs : List Rule) (k : List ℕ) (o : Option Rule) (m : List ℕ) : Type 0 where
  pub rule : option_map named o ≡ found (by_id xs) k
  pub mask : FindMask (by_id xs) k m
  pub exact : m ≡ linear_mask (by_id xs) k

pub looked_from : (xs : List Rule) (k : List ℕ) (o : Option Rule) (m : List ℕ) → standing xs ≡ true → first_match xs k ≡ o → m ≡ union empty_mask (looked_at xs k) → Looked xs k o m
looked_from xs k o m ok g e =
    let t = stored_from_test xs ok in
    let f = e ∙ empty_union (looked_at xs k) (looked_long xs k t.sound) in
    record {
      rule = sym (found_by_id xs k t.untied t.ordered ∙ ap (option_map named) g);
      mask = subst (FindMask (by_id xs) k) (sym f) (find_mask_looked xs k t.untied t.ordered);
      exact = f ∙ sym (linear_mask_by_id xs k t.other t.ordered);
    }

-- the same, where the rules are those of a slice
pub looked_from_slice : (xs ys : List Rule) (k : List ℕ) (o : Option Rule) (m : List ℕ) → xs ≡ ys → standing xs ≡ true → first_match xs k ≡ o → m ≡ union empty_mask (looked_at xs k) → Looked ys k o m
looked_from_slice xs ys k o m h ok g e = subst (λ zs. Looked zs k o m) h (looked_from xs k o m ok g e)

-- where a new rule may stand, there is room
pub room_left : (xs : List Rule) (new : Rule) → standing xs ≡ true → add_refusal (by_id xs) new ≡ None → length xs < 64
room_left xs new ok h = (admitted xs new (sym (add_refusal_stored xs new (stored_from_test xs ok)) ∙ h)).room
