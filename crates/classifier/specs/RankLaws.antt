-- The order of looking: rules of two ids go in, in either turn, and what a search down the order looks at.
use Rattle.std.specs.Prelude.{◌≡◌, ℕ, suc, ◌<◌, ◌≤◌, true, false, cond, ◌&&◌, ◌⊎◌, List, [], ◌∷◌, length, take, Some, None, ◌==◌, nat_lt, slice_index_or, refl}
use Rattle.std.proofs.Common.{sym, ap, subst, ◌∙◌, inl, inr, ⊎_elim, arith}
use Rattle.std.specs.List.{insert, AllByRecursion}
use Rattle.std.proofs.lemmas.List.{get_or_default, take_all}
use Rattle.std.specs.Option.{option_map}
use Rattle.std.proofs.lemmas.Bool.{cond_both, cond-true, cond-false, cases_Bool, cases_order, lt-ltb, le-ltb, ltb-true, eq-eqb, eqb-true, or_left, or_right, or_cases, and_parts, and_from, both_ways}
use Rattle.std.proofs.ByRecursion.{All-weaker}
use Rattle.flow.specs.Masks.{Agree, Within, union, empty_mask}
use Rattle.flow.proofs.MaskLaws.{within_refl, within_trans, within_left, within_right, within_union, agree_left, agree_right, length_union}
use Rattle.flow.proofs.WholeLaws.{empty_bytes}
use Rattle.classifier.specs.declared.rule.Rule.{Rule}
use Rattle.classifier.specs.Rules.{matches, clashing, named, found, bits_of, Adequate, FindMask, SoundRule}
use Rattle.classifier.specs.Tables.{added, clash, stands}
use Rattle.classifier.specs.Stores.{by_id, first_match, before, ranked, by_rank, looked_at, linear_mask}
use Rattle.classifier.specs.Inserts.{Pairs, put, length_put, all_put, pairs_put, sorted_put, put_front, put_comm, inserted_put, inserted_last}
use Rattle.classifier.specs.ByIdLaws.{Other, fresh_from_stands, stands_from_fresh, added_comm, added_cases, all_by_id, bits_of_by_id, lesser, hit, least_clash, clash_by_id}
use Rattle.classifier.specs.BestLaws.{Untied, best_by_id, best_is_first, matches_alike}

-- the order ------------------------------------------------------------------------------------------------

-- its meaning
abbrev pub Before : Rule → Rule → Type 0
Before r s = (s.priority < r.priority) ⊎ ((r.priority ≡ s.priority) × (r.id < s.id))

pub before_means : (r s : Rule) → before r s ≡ true → Before r s
before_means r s e =
    ⊎_elim (λ p. inl (ltb-true s.priority r.priority p))
    (λ p. let q = and_parts (r.priority == s.priority) (nat_lt r.id s.id) p in
    inr (eqb-true r.priority s.priority q.0, ltb-true r.id s.id q.1))
    (or_cases (nat_lt s.priority r.priority) (r.priority == s.priority && nat_lt r.id s.id) e)

pub before_from : (r s : Rule) → Before r s → before r s ≡ true
before_from r s w =
    ⊎_elim (λ l. or_left (nat_lt s.priority r.priority) (r.priority == s.priority && nat_lt r.id s.id) (lt-ltb s.priority r.priority l))
    (λ p. or_right (nat_lt s.priority r.priority) (r.priority == s.priority && nat_lt r.id s.id)
    (and_from (r.priority == s.priority) (nat_lt r.id s.id) (eq-eqb r.priority s.priority p.0) (lt-ltb r.id s.id p.1))) w

before_not : (r s : Rule) → (Before r s → ⊥) → before r s ≡ false
before_not r s n = ⊎_elim (λ t. absurd (n (before_means r s t))) (λ f. f) (cases_Bool (before r s))

pub before_chain : (a b c : Rule) → before a b ≡ true → before b c ≡ true → before a c ≡ true
before_chain a b c p q =
    before_from a c
    (⊎_elim (λ l. ⊎_elim (λ m. inl (omega arith)) (λ m. inl (omega arith)) (before_means b c q))
    (λ l. ⊎_elim (λ m. inl (omega arith)) (λ m. inr (l.0 ∙ m.0, omega arith)) (before_means b c q)) (before_means a b p))

-- of two ids, one way or the other
pub before_one : (a b : Rule) → Other a b → ((before a b ≡ true) × (before b a ≡ false)) ⊎ ((before b a ≡ true) × (before a b ≡ false))
before_one a b ne =
    ⊎_elim
    (λ e. ⊎_elim (λ i. absurd (ne i))
    (⊎_elim (λ l. inl (before_from a b (inr (e, l)), before_not b a (λ w. no_way w (⊎_elim (λ m. omega arith) (λ m. omega arith)))))
    (λ l. inr (before_from b a (inr (sym e, l)), before_not a b (λ w. no_way w (⊎_elim (λ m. omega arith) (λ m. omega arith))))))
    (cases_order a.id b.id))
    (⊎_elim (λ l. inr (before_from b a (inl l), before_not a b (λ w. no_way w (⊎_elim (λ m. omega arith) (λ m. omega arith)))))
    (λ l. inl (before_from a b (inl l), before_not b a (λ w. no_way w (⊎_elim (λ m. omega arith) (λ m. omega arith))))))
    (cases_order a.priority b.priority)
  where
    no_way : {W : Type 0} → W → (W → ⊥) → ⊥
    no_way w f = f w

ranked_put : (rs : List Rule) (r : Rule) → ranked rs r ≡ put before rs r
unfolding ranked
ranked_put [] r = refl
ranked_put (s ∷ rs) r = ap (λ ys. cond (before r s) (r ∷ s ∷ rs) (s ∷ ys)) (ranked_put rs r)

-- the place of an insertion, as a search finds it
pub inserted_ranked : (xs : List Rule) (i : ℕ) (r d : Rule) → i < length xs → AllByRecursion (λ s. before r s ≡ false) (take i xs) → before r (slice_index_or xs i d) ≡ true → insert xs i r ≡ ranked xs r
inserted_ranked xs i r d h p q =
    inserted_put before xs i r h p (λ e. subst (λ s. before r s ≡ true) (get_or_default xs i d e h) q) ∙ sym (ranked_put xs r)

pub inserted_ranked_last : (xs : List Rule) (i : ℕ) (r : Rule) → i ≡ length xs → AllByRecursion (λ s. before r s ≡ false) (take i xs) → insert xs (length xs) r ≡ ranked xs r
inserted_ranked_last xs i r e p =
    inserted_last before xs r (subst (AllByRecursion (λ s. before r s ≡ false)) (take_all i xs (omega arith)) p) ∙ sym (ranked_put xs r)

pub ranked_comm : (rs : List Rule) (a b : Rule) → Other a b → ranked (ranked rs a) b ≡ ranked (ranked rs b) a
ranked_comm rs a b ne =
    ap (λ ys. ranked ys b) (ranked_put rs a) ∙ ranked_put (put before rs a) b
    ∙ put_comm before before_chain rs a b (before_one a b ne)
    ∙ sym (ap (λ ys. ranked ys a) (ranked_put rs b) ∙ ranked_put (put before rs b) a)

pub by_rank_added : (rs : List Rule) (r : Rule) → AllByRecursion (Other r) rs → by_rank (added rs r) ≡ ranked (by_rank rs) r
unfolding by_rank added
by_rank_added [] r h = refl
by_rank_added (s ∷ rs) r h =
    added_cases (λ ys. by_rank ys ≡ ranked (by_rank (s ∷ rs)) r) s rs r (λ _. refl)
    (λ _. ap (λ ys. ranked ys s) (by_rank_added rs r h.1) ∙ ranked_comm (by_rank rs) r s h.0)

-- a store that is in the order of looking already
pub by_rank_by_id : (xs : List Rule) → Pairs Other xs → Pairs (λ r s. before r s ≡ true) xs → by_rank (by_id xs) ≡ xs
unfolding by_rank by_id
by_rank_by_id [] h o = refl
by_rank_by_id (x ∷ xs) h o =
    by_rank_added (by_id xs) x (all_by_id (Other x) xs h.0) ∙ ap (λ ys. ranked ys x) (by_rank_by_id xs h.1 o.1)
    ∙ ranked_put xs x ∙ put_front before xs x o.0

-- one more rule in the order of looking is one more by id
pub by_id_ranked : (xs : List Rule) (r : Rule) → stands xs r.id ≡ false → by_id (ranked xs r) ≡ added (by_id xs) r
unfolding by_id ranked
by_id_ranked [] r h = refl
by_id_ranked (x ∷ xs) r h =
    let o = fresh_from_stands (x ∷ xs) r h in
    cond_both (before r x) (r ∷ x ∷ xs) (x ∷ ranked xs r) (λ ys. by_id ys ≡ added (by_id (x ∷ xs)) r) (λ _. refl)
    (λ _. ap (λ ys. added ys x) (by_id_ranked xs r (stands_from_fresh xs r o.1)) ∙ added_comm (by_id xs) r x o.0)

-- in the order of looking the priorities fall
pub falling : (xs : List Rule) → Pairs (λ r s. before r s ≡ true) xs → Pairs (λ r s. s.priority ≤ r.priority) xs
falling [] o = tt
falling (x ∷ xs) o = (
  All-weaker (λ s. before x s ≡ true) (λ s. s.priority ≤ x.priority)
      (λ s e. ⊎_elim (λ l. omega arith) (λ l. omega arith) (before_means x s e)) xs o.0,
  falling xs o.1,
)

-- insertion keeps the order
pub length_ranked : (rs : List Rule) (r : Rule) → length (ranked rs r) ≡ suc (length rs)
length_ranked rs r = ap length (ranked_put rs r) ∙ length_put before rs r

pub all_ranked : (P : Rule → Type 0) (rs : List Rule) (r : Rule) → AllByRecursion P rs → P r → AllByRecursion P (ranked rs r)
all_ranked P rs r h p = rw (ranked_put rs r) (all_put P before rs r h p)

pub pairs_ranked : (R : Rule → Rule → Type 0) → ((x y : Rule) → R x y → R y x) → (rs : List Rule) (r : Rule) → AllByRecursion (R r) rs → Pairs R rs → Pairs R (ranked rs r)
pairs_ranked R turn rs r h q = rw (ranked_put rs r) (pairs_put R turn before rs r h q)

pub ordered_ranked : (rs : List Rule) (r : Rule) → AllByRecursion (Other r) rs → Pairs (λ r s. before r s ≡ true) rs → Pairs (λ r s. before r s ≡ true) (ranked rs r)
ordered_ranked rs r h o =
    rw (ranked_put rs r)
    (sorted_put before before_chain rs r
    (All-weaker (Other r) (λ s. before r s ≡ false → before s r ≡ true)
    (λ s ne e. ⊎_elim (λ w. absurd (both_ways (before r s) e w.0)) (λ w. w.0) (before_one r s ne)) rs h) o)

-- the smallest clash is the first: rules of one priority stand by rising id
least_above : (xs : List Rule) (new x : Rule) → x.priority ≡ new.priority → AllByRecursion (λ s. before x s ≡ true) xs → lesser (Some x.id) (clash xs new) ≡ Some x.id
unfolding clash
least_above [] new x e o = refl
least_above (s ∷ xs) new x e o =
    cond_both (s.priority == new.priority && clashing s new) (Some s.id) (clash xs new) (λ c. lesser (Some x.id) c ≡ Some x.id)
    (λ t. let q = eqb-true s.priority new.priority (and_parts (s.priority == new.priority) (clashing s new) t).0 in
    cond-false (nat_lt s.id x.id) (Some s.id) (Some x.id)
    (le-ltb s.id x.id (⊎_elim (λ l. absurd (omega arith)) (λ l. omega arith) (before_means x s o.0))))
    (λ _. least_above xs new x e o.1)

pub least_is_first : (xs : List Rule) (new : Rule) → Pairs (λ r s. before r s ≡ true) xs → least_clash xs new ≡ clash xs new
unfolding clash
least_is_first [] new o = refl
least_is_first (x ∷ xs) new o =
    ap (lesser (hit x new)) (least_is_first xs new o.1)
    ∙ ⊎_elim
    (λ t. ap (λ h. lesser h (clash xs new)) (cond-true (x.priority == new.priority && clashing x new) (Some x.id) None t)
    ∙ least_above xs new x (eqb-true x.priority new.priority (and_parts (x.priority == new.priority) (clashing x new) t).0) o.0
    ∙ sym (cond-true (x.priority == new.priority && clashing x new) (Some x.id) (clash xs new) t))
    (λ f. ap (λ h. lesser h (clash xs new)) (cond-false (x.priority == new.priority && clashing x new) (Some x.id) None f)
    ∙ sym (cond-false (x.priority == new.priority && clashing x new) (Some x.id) (clash xs new) f))
    (cases_Bool (x.priority == new.priority && clashing x new))

pub clash_ranked : (xs : List Rule) (new : Rule) → Pairs Other xs → Pairs (λ r s. before r s ≡ true) xs → clash (by_id xs) new ≡ clash xs new
clash_ranked xs new h o = clash_by_id xs new h ∙ least_is_first xs new o

-- finding ----------------------------------------------------------------------------------------------------

-- keys that agree in the bits looked at have the same first match
pub first_alike : (xs : List Rule) (k q : List ℕ) → Agree (looked_at xs k) k q → first_match xs q ≡ first_match xs k
unfolding looked_at
first_alike [] k q e = refl
first_alike (x ∷ xs) k q e =
    ⊎_elim
    (λ m. let a : Agree x.mask k q = subst (λ z. Agree z k q) (cond-true (matches x k) x.mask (union x.mask (looked_at xs k)) m) e in
    cond-true (matches x q) (Some x) (first_match xs q) (matches_alike x k q a ∙ m) ∙ sym (cond-true (matches x k) (Some x) (first_match xs k) m))
    (λ m. let a : Agree (union x.mask (looked_at xs k)) k q = subst (λ z. Agree z k q) (cond-false (matches x k) x.mask (union x.mask (looked_at xs k)) m) e in
    cond-false (matches x q) (Some x) (first_match xs q) (matches_alike x k q (agree_left x.mask (looked_at xs k) k q a) ∙ m)
    ∙ first_alike xs k q (agree_right x.mask (looked_at xs k) k q a) ∙ sym (cond-false (matches x k) (Some x) (first_match xs k) m))
    (cases_Bool (matches x k))

pub looked_within : (xs : List Rule) (k : List ℕ) → Within (looked_at xs k) (bits_of xs)
unfolding looked_at bits_of
looked_within [] k = within_refl empty_mask
looked_within (x ∷ xs) k =
    cond_both (matches x k) x.mask (union x.mask (looked_at xs k)) (λ m. Within m (union x.mask (bits_of xs)))
    (λ _. within_left x.mask (bits_of xs))
    (λ _. within_union x.mask (looked_at xs k) (union x.mask (bits_of xs)) (within_left x.mask (bits_of xs))
    (within_trans (looked_at xs k) (bits_of xs) (union x.mask (bits_of xs)) (looked_within xs k) (within_right x.mask (bits_of xs))))

pub looked_long : (xs : List Rule) (k : List ℕ) → AllByRecursion SoundRule xs → length (looked_at xs k) ≡ 36
unfolding looked_at
looked_long [] k h = empty_bytes.long
looked_long (x ∷ xs) k h =
    cond_both (matches x k) x.mask (union x.mask (looked_at xs k)) (λ m. length m ≡ 36) (λ _. h.0.mask_bytes.long)
    (λ _. length_union 36 x.mask (looked_at xs k) h.0.mask_bytes.long (looked_long xs k h.1))

pub found_by_id : (xs : List Rule) (k : List ℕ) → Pairs Untied xs → Pairs (λ r s. before r s ≡ true) xs → found (by_id xs) k ≡ option_map named (first_match xs k)
unfolding found
found_by_id xs k u o = ap (option_map named) (best_by_id xs k u ∙ best_is_first xs k u (falling xs o))

pub find_mask_looked : (xs : List Rule) (k : List ℕ) → Pairs Untied xs → Pairs (λ r s. before r s ≡ true) xs → FindMask (by_id xs) k (looked_at xs k)
unfolding Adequate
find_mask_looked xs k u o =
    record {
      tells = λ q _ e. found_by_id xs q u o ∙ ap (option_map named) (first_alike xs k q e) ∙ sym (found_by_id xs k u o);
      bounded = subst (Within (looked_at xs k)) (sym (bits_of_by_id xs)) (looked_within xs k);
    }

pub linear_mask_by_id : (xs : List Rule) (k : List ℕ) → Pairs Other xs → Pairs (λ r s. before r s ≡ true) xs → linear_mask (by_id xs) k ≡ looked_at xs k
unfolding linear_mask
linear_mask_by_id xs k h o = ap (λ ys. looked_at ys k) (by_rank_by_id xs h o)
