-- A store of rules by rising id: what its order does not matter to.
use Rattle.std.specs.Prelude.{◌≡◌, ℕ, zero, suc, ◌<◌, ◌≤◌, Bool, true, false, cond, not, ◌&&◌, ◌||◌, ◌⊎◌, List, [], ◌∷◌, ◌++◌, map, length, get_or, Some, None, Option, ◌==◌, ◌≢◌, nat_lt, slice_index_or, slice_set, refl}
use Rattle.std.proofs.Common.{sym, ap, ap₂, subst, ◌∙◌, inl, inr, ⊎_elim, arith}
use Rattle.std.specs.List.{AllByRecursion}
use Rattle.std.proofs.lemmas.Bool.{cases_order, cond_both, cond-true, cond-false, lt-ltb, le-ltb, ltb-true, ltb-false, eqb-true, eqb-false, eq-eqb, ne_eqb, or_parts, or_from, cases_Bool, both_ways}
use Rattle.std.proofs.ByRecursion.{All-weaker, All-get_or}
use Rattle.flow.specs.Masks.{union}
use Rattle.flow.proofs.MaskLaws.{union_comm, union_assoc}
use Rattle.classifier.specs.declared.rule.Rule.{Rule}
use Rattle.classifier.specs.Rules.{clashing, bits_of, Rising}
use Rattle.classifier.specs.Tables.{stands, clash, added, removed, raised, credited, at_id, count_of}
use Rattle.classifier.specs.Stores.{by_id}
use Rattle.classifier.specs.Inserts.{Pairs, put, length_put, all_put, pairs_put, sorted_put, put_comm}

-- another id
abbrev pub Other : Rule → Rule → Type 0
Other r s = r.id ≡ s.id → ⊥

abbrev id_lt : Rule → Rule → Bool
id_lt r s = nat_lt r.id s.id

id_chain : (a b c : Rule) → id_lt a b ≡ true → id_lt b c ≡ true → id_lt a c ≡ true
id_chain a b c p q = lt-ltb a.id c.id (omega (arith, ltb-true a.id b.id p, ltb-true b.id c.id q))

added_put : (rs : List Rule) (r : Rule) → added rs r ≡ put id_lt rs r
unfolding added
added_put [] r = refl
added_put (s ∷ rs) r = ap (λ ys. cond (nat_lt r.id s.id) (r ∷ s ∷ rs) (s ∷ ys)) (added_put rs r)

-- added --------------------------------------------------------------------------------------------------

pub added_comm : (rs : List Rule) (a b : Rule) → Other a b → added (added rs a) b ≡ added (added rs b) a
added_comm rs a b ne =
    ap (λ ys. added ys b) (added_put rs a) ∙ added_put (put id_lt rs a) b
    ∙ put_comm id_lt id_chain rs a b
    (⊎_elim (λ e. absurd (ne e))
    (⊎_elim (λ l. inl (lt-ltb a.id b.id l, le-ltb b.id a.id (omega arith)))
    (λ l. inr (lt-ltb b.id a.id l, le-ltb a.id b.id (omega arith))))
    (cases_order a.id b.id))
    ∙ sym (ap (λ ys. added ys a) (added_put rs b) ∙ added_put (put id_lt rs b) a)

pub length_added : (rs : List Rule) (r : Rule) → length (added rs r) ≡ suc (length rs)
length_added rs r = ap length (added_put rs r) ∙ length_put id_lt rs r

pub all_added : (P : Rule → Type 0) (rs : List Rule) (r : Rule) → AllByRecursion P rs → P r → AllByRecursion P (added rs r)
all_added P rs r h p = rw (added_put rs r) (all_put P id_lt rs r h p)

pub pairs_added : (R : Rule → Rule → Type 0) → ((x y : Rule) → R x y → R y x) → (rs : List Rule) (r : Rule) → AllByRecursion (R r) rs → Pairs R rs → Pairs R (added rs r)
pairs_added R turn rs r h q = rw (added_put rs r) (pairs_put R turn id_lt rs r h q)

-- a fact about the added list, from the two ways in which it goes in
pub added_cases : (P : List Rule → Type 0) (s : Rule) (rs : List Rule) (r : Rule) → (r.id < s.id → P (r ∷ s ∷ rs)) → (s.id ≤ r.id → P (s ∷ added rs r)) → P (added (s ∷ rs) r)
unfolding added
added_cases P s rs r f g =
    cond_both (nat_lt r.id s.id) (r ∷ s ∷ rs) (s ∷ added rs r) P (λ e. f (ltb-true r.id s.id e)) (λ e. g (ltb-false r.id s.id e))

-- Rising as pairs
pub rising_from_pairs : (rs : List Rule) → Pairs (λ r s. r.id < s.id) rs → Rising rs
unfolding Rising
rising_from_pairs [] h = tt
rising_from_pairs (r ∷ rs) h = (h.0, rising_from_pairs rs h.1)

pub pairs_from_rising : (rs : List Rule) → Rising rs → Pairs (λ r s. r.id < s.id) rs
unfolding Rising
pairs_from_rising [] h = tt
pairs_from_rising (r ∷ rs) h = (h.0, pairs_from_rising rs h.1)

tested : (rs : List Rule) → Pairs (λ r s. r.id < s.id) rs → Pairs (λ r s. id_lt r s ≡ true) rs
tested [] h = tt
tested (r ∷ rs) h = (All-weaker (λ s. r.id < s.id) (λ s. id_lt r s ≡ true) (λ s l. lt-ltb r.id s.id l) rs h.0, tested rs h.1)

untested : (rs : List Rule) → Pairs (λ r s. id_lt r s ≡ true) rs → Pairs (λ r s. r.id < s.id) rs
untested [] h = tt
untested (r ∷ rs) h = (All-weaker (λ s. id_lt r s ≡ true) (λ s. r.id < s.id) (λ s e. ltb-true r.id s.id e) rs h.0, untested rs h.1)

pub rising_added : (rs : List Rule) (r : Rule) → AllByRecursion (Other r) rs → Rising rs → Rising (added rs r)
rising_added rs r h q =
    rising_from_pairs (added rs r)
    (untested (added rs r)
    (rw (added_put rs r)
    (sorted_put id_lt id_chain rs r
    (All-weaker (Other r) (λ s. id_lt r s ≡ false → id_lt s r ≡ true)
    (λ s ne e. let n : Other r s = ne in let l = ltb-false r.id s.id e in lt-ltb s.id r.id (⊎_elim (λ q. absurd (n q)) (⊎_elim (λ q. absurd (omega arith)) (λ q. q)) (cases_order r.id s.id))) rs h)
    (tested rs (pairs_from_rising rs q)))))

-- standing ids -------------------------------------------------------------------------------------------

or_swap : (a b c : Bool) → (a || (b || c)) ≡ (b || (a || c))
or_swap true true c = refl
or_swap true false c = refl
or_swap false true c = refl
or_swap false false c = refl

pub stands_added : (rs : List Rule) (r : Rule) (i : ℕ) → stands (added rs r) i ≡ (r.id == i || stands rs i)
unfolding stands added
stands_added [] r i = refl
stands_added (s ∷ rs) r i =
    added_cases (λ ys. stands ys i ≡ (r.id == i || stands (s ∷ rs) i)) s rs r (λ _. refl)
    (λ _. ap (λ b. (s.id == i) || b) (stands_added rs r i) ∙ or_swap (s.id == i) (r.id == i) (stands rs i))

pub stands_by_id : (xs : List Rule) (i : ℕ) → stands (by_id xs) i ≡ stands xs i
unfolding by_id stands
stands_by_id [] i = refl
stands_by_id (x ∷ xs) i = stands_added (by_id xs) x i ∙ ap (λ b. (x.id == i) || b) (stands_by_id xs i)

-- no rule of this id
pub fresh_from_stands : (rs : List Rule) (r : Rule) → stands rs r.id ≡ false → AllByRecursion (Other r) rs
unfolding stands
fresh_from_stands [] r h = tt
fresh_from_stands (s ∷ rs) r h =
    let p = or_parts (s.id == r.id) (stands rs r.id) h in
    ((λ e. eqb-false s.id r.id p.0 (sym e)), fresh_from_stands rs r p.1)

pub stands_from_fresh : (rs : List Rule) (r : Rule) → AllByRecursion (Other r) rs → stands rs r.id ≡ false
unfolding stands
stands_from_fresh [] r h = refl
stands_from_fresh (s ∷ rs) r h =
    or_from (s.id == r.id) (stands rs r.id) (ne_eqb s.id r.id (λ e. h.0 (sym e))) (stands_from_fresh rs r h.1)

-- all the rules, by id ------------------------------------------------------------------------------------

pub length_by_id : (xs : List Rule) → length (by_id xs) ≡ length xs
unfolding by_id
length_by_id [] = refl
length_by_id (x ∷ xs) = length_added (by_id xs) x ∙ ap suc (length_by_id xs)

pub all_by_id : (P : Rule → Type 0) (xs : List Rule) → AllByRecursion P xs → AllByRecursion P (by_id xs)
unfolding by_id
all_by_id P [] h = tt
all_by_id P (x ∷ xs) h = all_added P (by_id xs) x (all_by_id P xs h.1) h.0

pub pairs_by_id : (R : Rule → Rule → Type 0) → ((x y : Rule) → R x y → R y x) → (xs : List Rule) → Pairs R xs → Pairs R (by_id xs)
unfolding by_id
pairs_by_id R turn [] h = tt
pairs_by_id R turn (x ∷ xs) h = pairs_added R turn (by_id xs) x (all_by_id (R x) xs h.0) (pairs_by_id R turn xs h.1)

pub rising_by_id : (xs : List Rule) → Pairs Other xs → Rising (by_id xs)
unfolding by_id Rising
rising_by_id [] h = tt
rising_by_id (x ∷ xs) h = rising_added (by_id xs) x (all_by_id (Other x) xs h.0) (rising_by_id xs h.1)

-- one more rule anywhere
pub by_id_insert : (xs ys : List Rule) (r : Rule) → AllByRecursion (Other r) xs → by_id (xs ++ r ∷ ys) ≡ added (by_id (xs ++ ys)) r
unfolding by_id
by_id_insert [] ys r h = refl
by_id_insert (x ∷ xs) ys r h =
    ap (λ zs. added zs x) (by_id_insert xs ys r h.1) ∙ added_comm (by_id (xs ++ ys)) r x h.0

-- removal -------------------------------------------------------------------------------------------------

pub removed_missing : (rs : List Rule) (i : ℕ) → stands rs i ≡ false → removed rs i ≡ rs
unfolding stands removed
removed_missing [] i h = refl
removed_missing (r ∷ rs) i h =
    let p = or_parts (r.id == i) (stands rs i) h in
    ap (λ b. cond (not b) (r ∷ removed rs i) (removed rs i)) p.0 ∙ ap (λ ys. r ∷ ys) (removed_missing rs i p.1)

pub removed_added : (rs : List Rule) (r : Rule) → stands rs r.id ≡ false → removed (added rs r) r.id ≡ rs
unfolding stands removed added
removed_added [] r h = ap (λ b. cond (not b) (r ∷ []) []) (eq-eqb r.id r.id refl)
removed_added (s ∷ rs) r h =
    let p = or_parts (s.id == r.id) (stands rs r.id) h in
    added_cases (λ ys. removed ys r.id ≡ s ∷ rs) s rs r
    (λ _. ap (λ b. cond (not b) (r ∷ removed (s ∷ rs) r.id) (removed (s ∷ rs) r.id)) (eq-eqb r.id r.id refl) ∙ removed_missing (s ∷ rs) r.id h)
    (λ _. ap (λ b. cond (not b) (s ∷ removed (added rs r) r.id) (removed (added rs r) r.id)) p.0 ∙ ap (λ ys. s ∷ ys) (removed_added rs r p.1))

-- a rule out, from anywhere
pub by_id_remove : (xs ys : List Rule) (r : Rule) → AllByRecursion (Other r) xs → AllByRecursion (Other r) ys → by_id (xs ++ ys) ≡ removed (by_id (xs ++ r ∷ ys)) r.id
by_id_remove xs ys r h k =
    sym (ap (λ zs. removed zs r.id) (by_id_insert xs ys r h)
    ∙ removed_added (by_id (xs ++ ys)) r (stands_by_id (xs ++ ys) r.id ∙ stands_from_fresh (xs ++ ys) r (joined xs h)))
  where
    joined : (zs : List Rule) → AllByRecursion (Other r) zs → AllByRecursion (Other r) (zs ++ ys)
    joined [] h = k
    joined (z ∷ zs) h = (h.0, joined zs h.1)

-- counts --------------------------------------------------------------------------------------------------

-- a rule after n more for the rule of id i
abbrev pub credit_one : ℕ → ℕ → Rule → Rule
credit_one i n r = cond (r.id == i) (raised n r) r

pub credit_one_id : (i n : ℕ) (r : Rule) → (credit_one i n r).id ≡ r.id
credit_one_id i n r = cond_both (r.id == i) (raised n r) r (λ s. s.id ≡ r.id) (λ _. refl) (λ _. refl)

pub credited_added : (rs : List Rule) (r : Rule) (i n : ℕ) → credited (added rs r) i n ≡ added (credited rs i n) (credit_one i n r)
unfolding credited added
credited_added [] r i n = refl
credited_added (s ∷ rs) r i n =
    let e = credit_one_id i n r in
    let f = credit_one_id i n s in
    ⊎_elim
    (λ l. ap (λ ys. map (credit_one i n) ys) (cond-true (nat_lt r.id s.id) (r ∷ s ∷ rs) (s ∷ added rs r) (lt-ltb r.id s.id l))
    ∙ sym (cond-true (nat_lt (credit_one i n r).id (credit_one i n s).id) (credit_one i n r ∷ credit_one i n s ∷ credited rs i n) (credit_one i n s ∷ added (credited rs i n) (credit_one i n r)) (lt-ltb (credit_one i n r).id (credit_one i n s).id (omega arith))))
    (λ l. ap (λ ys. map (credit_one i n) ys) (cond-false (nat_lt r.id s.id) (r ∷ s ∷ rs) (s ∷ added rs r) (le-ltb r.id s.id l))
    ∙ ap (λ ys. credit_one i n s ∷ ys) (credited_added rs r i n)
    ∙ sym (cond-false (nat_lt (credit_one i n r).id (credit_one i n s).id) (credit_one i n r ∷ credit_one i n s ∷ credited rs i n) (credit_one i n s ∷ added (credited rs i n) (credit_one i n r)) (le-ltb (credit_one i n r).id (credit_one i n s).id (omega arith))))
    (either r.id s.id)
  where
    either : (a b : ℕ) → (a < b) ⊎ (b ≤ a)
    either a b = ⊎_elim (λ e. inr (omega arith)) (⊎_elim (λ l. inl l) (λ l. inr (omega arith))) (cases_order a b)

pub by_id_credit : (xs : List Rule) (i n : ℕ) → by_id (credited xs i n) ≡ credited (by_id xs) i n
unfolding by_id credited
by_id_credit [] i n = refl
by_id_credit (x ∷ xs) i n = ap (λ ys. added ys (credit_one i n x)) (by_id_credit xs i n) ∙ sym (credited_added (by_id xs) x i n)

pub credited_missing : (rs : List Rule) (i n : ℕ) → stands rs i ≡ false → credited rs i n ≡ rs
unfolding stands credited
credited_missing [] i n h = refl
credited_missing (r ∷ rs) i n h =
    let p = or_parts (r.id == i) (stands rs i) h in
    ap₂ ◌∷◌ (cond-false (r.id == i) (raised n r) r p.0) (credited_missing rs i n p.1)

-- the rule at place p alone has the id
pub credited_at : (xs : List Rule) (p i n : ℕ) → Pairs Other xs → p < length xs → ((d : Rule) → (get_or xs p d).id ≡ i) → (d : Rule) → credited xs i n ≡ slice_set xs p (raised n (slice_index_or xs p d))
unfolding credited
credited_at [] p i n q h e d = absurd (omega arith)
credited_at (x ∷ xs) zero i n q h e d =
    ap₂ ◌∷◌ (cond-true (x.id == i) (raised n x) x (eq-eqb x.id i (e d)))
    (credited_missing xs i n (subst (λ j. stands xs j ≡ false) (e d) (stands_from_fresh xs x q.0)))
credited_at (x ∷ xs) (suc p) i n q h e d =
    ap₂ ◌∷◌
    (cond-false (x.id == i) (raised n x) x (ne_eqb x.id i (λ f. All-get_or (Other x) xs p d (omega arith) q.0 (f ∙ sym (e d)))))
    (credited_at xs p i n q.1 (omega arith) e d)

pub at_id_added : {X : Type 0} (f : Rule → X) (z : X) (rs : List Rule) (r : Rule) (i : ℕ) → stands rs r.id ≡ false → at_id f z (added rs r) i ≡ cond (r.id == i) (f r) (at_id f z rs i)
unfolding stands at_id added
at_id_added f z [] r i h = refl
at_id_added f z (s ∷ rs) r i h =
    let p = or_parts (s.id == r.id) (stands rs r.id) h in
    added_cases (λ ys. at_id f z ys i ≡ cond (r.id == i) (f r) (at_id f z (s ∷ rs) i)) s rs r (λ _. refl)
    (λ _. ap (λ c. cond (s.id == i) (f s) c) (at_id_added f z rs r i p.1)
    ∙ swap (eqb-false s.id r.id p.0))
  where
    swap : (s.id ≢ r.id) → cond (s.id == i) (f s) (cond (r.id == i) (f r) (at_id f z rs i)) ≡ cond (r.id == i) (f r) (cond (s.id == i) (f s) (at_id f z rs i))
    swap ne =
        ⊎_elim
        (λ t. let u = ne_eqb r.id i (λ e. ne (eqb-true s.id i t ∙ sym e)) in
        cond-true (s.id == i) (f s) (cond (r.id == i) (f r) (at_id f z rs i)) t
        ∙ sym (cond-false (r.id == i) (f r) (cond (s.id == i) (f s) (at_id f z rs i)) u ∙ cond-true (s.id == i) (f s) (at_id f z rs i) t))
        (λ t. cond-false (s.id == i) (f s) (cond (r.id == i) (f r) (at_id f z rs i)) t
        ∙ sym (ap (λ c. cond (r.id == i) (f r) c) (cond-false (s.id == i) (f s) (at_id f z rs i) t)))
        (cases_Bool (s.id == i))

pub at_id_by_id : {X : Type 0} (f : Rule → X) (z : X) (xs : List Rule) (i : ℕ) → Pairs Other xs → at_id f z (by_id xs) i ≡ at_id f z xs i
unfolding by_id at_id
at_id_by_id f z [] i h = refl
at_id_by_id f z (x ∷ xs) i h =
    at_id_added f z (by_id xs) x i (stands_by_id xs x.id ∙ stands_from_fresh xs x h.0)
    ∙ ap (λ c. cond (x.id == i) (f x) c) (at_id_by_id f z xs i h.1)

-- at the place that alone has the id
pub at_id_place : {X : Type 0} (f : Rule → X) (z : X) (xs : List Rule) (p i : ℕ) → Pairs Other xs → p < length xs → ((d : Rule) → (get_or xs p d).id ≡ i) → (d : Rule) → at_id f z xs i ≡ f (slice_index_or xs p d)
unfolding at_id
at_id_place f z [] p i q h e d = absurd (omega arith)
at_id_place f z (x ∷ xs) zero i q h e d = cond-true (x.id == i) (f x) (at_id f z xs i) (eq-eqb x.id i (e d))
at_id_place f z (x ∷ xs) (suc p) i q h e d =
    cond-false (x.id == i) (f x) (at_id f z xs i) (ne_eqb x.id i (λ u. All-get_or (Other x) xs p d (omega arith) q.0 (u ∙ sym (e d))))
    ∙ at_id_place f z xs p i q.1 (omega arith) e d

-- the same of counts

pub count_of_added : (rs : List Rule) (r : Rule) (i : ℕ) → stands rs r.id ≡ false → count_of (added rs r) i ≡ cond (r.id == i) r.count (count_of rs i)
count_of_added rs r i h = at_id_added (λ s. s.count) 0 rs r i h

pub count_of_by_id : (xs : List Rule) (i : ℕ) → Pairs Other xs → count_of (by_id xs) i ≡ count_of xs i
count_of_by_id xs i h = at_id_by_id (λ s. s.count) 0 xs i h

-- the count at the place that alone has the id
pub count_at : (xs : List Rule) (p i : ℕ) → Pairs Other xs → p < length xs → ((d : Rule) → (get_or xs p d).id ≡ i) → (d : Rule) → count_of xs i ≡ (get_or xs p d).count
count_at xs p i q h e d = at_id_place (λ s. s.count) 0 xs p i q h e d

-- bits ----------------------------------------------------------------------------------------------------

pub bits_of_added : (rs : List Rule) (r : Rule) → bits_of (added rs r) ≡ union r.mask (bits_of rs)
unfolding bits_of added
bits_of_added [] r = refl
bits_of_added (s ∷ rs) r =
    added_cases (λ ys. bits_of ys ≡ union r.mask (bits_of (s ∷ rs))) s rs r (λ _. refl)
    (λ _. ap (union s.mask) (bits_of_added rs r)
    ∙ sym (union_assoc s.mask r.mask (bits_of rs)) ∙ ap (λ m. union m (bits_of rs)) (union_comm s.mask r.mask) ∙ union_assoc r.mask s.mask (bits_of rs))

pub bits_of_by_id : (xs : List Rule) → bits_of (by_id xs) ≡ bits_of xs
unfolding by_id bits_of
bits_of_by_id [] = refl
bits_of_by_id (x ∷ xs) = bits_of_added (by_id xs) x ∙ ap (union x.mask) (bits_of_by_id xs)

-- the smallest clash -------------------------------------------------------------------------------------------

-- of two ids, the smaller
abbrev pub lesser : Option ℕ → Option ℕ → Option ℕ
lesser None o = o
lesser (Some i) None = Some i
lesser (Some i) (Some j) = cond (nat_lt j i) (Some j) (Some i)

-- the id of a rule that clashes at the new one's priority
abbrev pub hit : Rule → Rule → Option ℕ
hit r new = cond (r.priority == new.priority && clashing r new) (Some r.id) None

-- the smallest id of a rule that clashes with the new one, in any order of the rules
abbrev pub least_clash : List Rule → Rule → Option ℕ
least_clash [] new = None
least_clash (r ∷ rs) new = lesser (hit r new) (least_clash rs new)

-- an id below all those of the list
below_all : (rs : List Rule) (new : Rule) (i : ℕ) → AllByRecursion (λ s. i < s.id) rs → lesser (Some i) (clash rs new) ≡ Some i
unfolding clash
below_all [] new i h = refl
below_all (s ∷ rs) new i h =
    cond_both (s.priority == new.priority && clashing s new) (Some s.id) (clash rs new) (λ o. lesser (Some i) o ≡ Some i)
    (λ _. cond-false (nat_lt s.id i) (Some s.id) (Some i) (le-ltb s.id i (omega arith))) (λ _. below_all rs new i h.1)

lesser_swap : (s r : Rule) (new : Rule) (o : Option ℕ) → s.id ≤ r.id → cond (s.priority == new.priority && clashing s new) (Some s.id) (lesser (hit r new) o) ≡ lesser (hit r new) (cond (s.priority == new.priority && clashing s new) (Some s.id) o)
lesser_swap s r new o l =
    ⊎_elim
    (λ t. cond-true (s.priority == new.priority && clashing s new) (Some s.id) (lesser (hit r new) o) t
    ∙ sym (ap (lesser (hit r new)) (cond-true (s.priority == new.priority && clashing s new) (Some s.id) o t)
    ∙ cond_both (r.priority == new.priority && clashing r new) (Some r.id) None (λ x. lesser x (Some s.id) ≡ Some s.id)
    (λ _. down r.id s.id l) (λ _. refl)))
    (λ f. cond-false (s.priority == new.priority && clashing s new) (Some s.id) (lesser (hit r new) o) f
    ∙ sym (ap (lesser (hit r new)) (cond-false (s.priority == new.priority && clashing s new) (Some s.id) o f)))
    (cases_Bool (s.priority == new.priority && clashing s new))
  where
    down : (a b : ℕ) → b ≤ a → cond (nat_lt b a) (Some b) (Some a) ≡ Some b
    down a b h = cond_both (nat_lt b a) (Some b) (Some a) (λ x. x ≡ Some b) (λ _. refl) (λ e. ap Some (omega (arith, ltb-false b a e)))

pub clash_added : (rs : List Rule) (r new : Rule) → Rising rs → clash (added rs r) new ≡ lesser (hit r new) (clash rs new)
unfolding clash added Rising
clash_added [] r new h =
    cond_both (r.priority == new.priority && clashing r new) (Some r.id) None (λ o. o ≡ lesser o None) (λ _. refl) (λ _. refl)
clash_added (s ∷ rs) r new h =
    added_cases (λ ys. clash ys new ≡ lesser (hit r new) (clash (s ∷ rs) new)) s rs r
    (λ l. ⊎_elim
    (λ t. cond-true (r.priority == new.priority && clashing r new) (Some r.id) (clash (s ∷ rs) new) t
    ∙ sym (ap (λ o. lesser o (clash (s ∷ rs) new)) (cond-true (r.priority == new.priority && clashing r new) (Some r.id) None t)
    ∙ below_all (s ∷ rs) new r.id (l, All-weaker (λ x. s.id < x.id) (λ x. r.id < x.id) (λ x q. omega arith) rs h.0)))
    (λ f. cond-false (r.priority == new.priority && clashing r new) (Some r.id) (clash (s ∷ rs) new) f
    ∙ sym (ap (λ o. lesser o (clash (s ∷ rs) new)) (cond-false (r.priority == new.priority && clashing r new) (Some r.id) None f)))
    (cases_Bool (r.priority == new.priority && clashing r new)))
    (λ l. ap (λ o. cond (s.priority == new.priority && clashing s new) (Some s.id) o) (clash_added rs r new h.1)
    ∙ lesser_swap s r new (clash rs new) l)

pub clash_by_id : (xs : List Rule) (new : Rule) → Pairs Other xs → clash (by_id xs) new ≡ least_clash xs new
unfolding by_id clash
clash_by_id [] new h = refl
clash_by_id (x ∷ xs) new h =
    clash_added (by_id xs) x new (rising_by_id xs h.1) ∙ ap (lesser (hit x new)) (clash_by_id xs new h.1)

-- no rule of the list clashes
pub apart_from_clash : (rs : List Rule) (new : Rule) → clash rs new ≡ None → AllByRecursion (λ s. s.priority ≡ new.priority → clashing s new ≡ false) rs
unfolding clash
apart_from_clash [] new h = tt
apart_from_clash (s ∷ rs) new h =
    ⊎_elim
    (λ t. absurd (never (sym (cond-true (s.priority == new.priority && clashing s new) (Some s.id) (clash rs new) t) ∙ h)))
    (λ f. (
      (λ e. miss (s.priority == new.priority) (clashing s new) (eq-eqb s.priority new.priority e) f),
      apart_from_clash rs new (sym (cond-false (s.priority == new.priority && clashing s new) (Some s.id) (clash rs new) f) ∙ h),
    ))
    (cases_Bool (s.priority == new.priority && clashing s new))
  where
    never : {i : ℕ} → Some i ≢ None
    never e = let z : ◌≡◌ {A = ℕ} 0 1 = cc in omega arith

    miss : (a b : Bool) → a ≡ true → (a && b) ≡ false → b ≡ false
    miss true b e f = f
    miss false b e f = absurd (both_ways false refl e)
