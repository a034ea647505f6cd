-- Laws of the order of a FIFO policy.
use Rattle.std.specs.Prelude.{◌≡◌, ℕ, zero, suc, ◌+◌, ◌<◌, ◌≤◌, Bool, true, false, cond, not, ◌&&◌, ◌||◌, List, [], ◌∷◌, ◌++◌, length, Some, None, Option, MatchOption, ◌==◌, ◌≢◌, nat_eq, nat_lt, slice_index, refl}
use Rattle.std.proofs.Common.{sym, ap, ap₂, subst, ◌∙◌, ⊎_elim, arith}
use Rattle.std.proofs.lemmas.List.{length-append}
use Rattle.std.specs.List.{remove, position, AllByRecursion}
use Rattle.std.proofs.lemmas.List.Quantifiers.{position-Some}
use Rattle.flow.proofs.Firsts.{none_passes}
use Rattle.std.specs.Borrow.{Bor}
use Rattle.std.specs.Option.{option_map}
use Rattle.std.specs.Slice.{IsGetResult}
use Rattle.std.proofs.lemmas.Bool.{cases_eq, cases_Bool, cases_lt, eq-eqb, ne_eqb, eqb-true, eqb-false, ltb-true, lt-ltb, le-ltb, and_parts, and_from, not-true, not_from_false, cond-true, cond-false, or_parts}
use Rattle.std.proofs.lemmas.Bool.Decides.{nat_tests}
use Rattle.eviction.specs.Sets.{with_slot, without_slot}
use Rattle.eviction.specs.Orders.{listed, left_out, put_last, oldest, orderly}
use Rattle.eviction.specs.Places.{Left, FirstOf}

-- a slot out of the order, and a slot at its end
out_test : (x s i : ℕ) (t : Bool) → (cond (x == s) (t && not (i == s)) (i == x || (t && not (i == s)))) ≡ ((i == x || t) && not (i == s))
out_test x s i true = grind (arith, nat_tests)
out_test x s i false = grind (arith, nat_tests)

listed_cond : (b : Bool) (xs ys : List ℕ) (i : ℕ) → listed (cond b xs ys) i ≡ cond b (listed xs i) (listed ys i)
listed_cond true xs ys i = refl
listed_cond false xs ys i = refl

pub listed_left_out : (xs : List ℕ) (s i : ℕ) → listed (left_out xs s) i ≡ without_slot (listed xs) s i
unfolding listed left_out
listed_left_out [] s i = refl
listed_left_out (x ∷ xs) s i =
    listed_cond (x == s) (left_out xs s) (x ∷ left_out xs s) i
    ∙ ap (λ t. cond (x == s) t (i == x || t)) (listed_left_out xs s i)
    ∙ out_test x s i (listed xs i)

pub listed_push : (xs : List ℕ) (s i : ℕ) → listed (xs ++ s ∷ []) i ≡ (listed xs i || i == s)
unfolding listed
listed_push [] s i = grind (arith, nat_tests)
listed_push (x ∷ xs) s i = ap (λ t. (i == x) || t) (listed_push xs s i) ∙ grind (arith, nat_tests)

in_test : (s i : ℕ) (t : Bool) → ((t && not (i == s)) || i == s) ≡ (t || (i == s && true))
in_test s i true = grind (arith, nat_tests)
in_test s i false = grind (arith, nat_tests)

pub listed_put_last : (xs : List ℕ) (s i : ℕ) → listed (put_last xs s) i ≡ with_slot (listed xs) s i
listed_put_last xs s i = ⊎_elim into past (cases_lt s 128)
  where
    into : s < 128 → listed (put_last xs s) i ≡ with_slot (listed xs) s i
    into h =
        ap (λ b. listed (cond b (left_out xs s ++ s ∷ []) xs) i) (lt-ltb s 128 h)
        ∙ listed_push (left_out xs s) s i
        ∙ ap (λ t. t || i == s) (listed_left_out xs s i)
        ∙ in_test s i (listed xs i)
        ∙ ap (λ b. listed xs i || (i == s && b)) (sym (lt-ltb s 128 h))

    past : 128 ≤ s → listed (put_last xs s) i ≡ with_slot (listed xs) s i
    past h =
        ap (λ b. listed (cond b (left_out xs s ++ s ∷ []) xs) i) (le-ltb s 128 h)
        ∙ drop-and (listed xs i) (i == s)
        ∙ ap (λ b. listed xs i || (i == s && b)) (sym (le-ltb s 128 h))
      where
        drop-and : (t u : Bool) → t ≡ (t || (u && false))
        drop-and true u = refl
        drop-and false true = refl
        drop-and false false = refl

-- the three tests of an order
pub record Ordered (x : ℕ) (xs : List ℕ) : Type 0 where
  pub below : x < 128
  pub once : listed xs x ≡ false
  pub rest : orderly xs ≡ true

pub ordered : (x : ℕ) (xs : List ℕ) → orderly (x ∷ xs) ≡ true → Ordered x xs
unfolding orderly
ordered x xs h =
    let a = and_parts (nat_lt x 128) (not (listed xs x) && orderly xs) h in
    let b = and_parts (not (listed xs x)) (orderly xs) a.1 in
    record { below = ltb-true x 128 a.0; once = not-true (listed xs x) b.0; rest = b.1 }

pub orderly_from : (x : ℕ) (xs : List ℕ) → x < 128 → listed xs x ≡ false → orderly xs ≡ true → orderly (x ∷ xs) ≡ true
unfolding orderly
orderly_from x xs b o r =
    and_from (nat_lt x 128) (not (listed xs x) && orderly xs) (lt-ltb x 128 b)
    (and_from (not (listed xs x)) (orderly xs) (not_from_false (listed xs x) o) r)

pub orderly_none : (xs : List ℕ) → xs ≡ [] → orderly xs ≡ true
unfolding orderly
orderly_none xs e = ap orderly e

pub listed_none : (xs : List ℕ) (i : ℕ) → xs ≡ [] → listed xs i ≡ false
unfolding listed
listed_none xs i e = ap (λ ys. listed ys i) e

pub listed_below : (xs : List ℕ) (i : ℕ) → orderly xs ≡ true → listed xs i ≡ true → i < 128
unfolding listed
listed_below [] i o h = absurd (grind arith)
listed_below (x ∷ xs) i o h =
    let w = ordered x xs o in
    ⊎_elim (λ (e : i ≡ x). omega (arith, w.below))
    (λ (n : i ≡ x → ⊥). listed_below xs i w.rest (sym (ap (λ t. t || listed xs i) (ne_eqb i x n)) ∙ h)) (cases_eq i x)

absent_out : (s i : ℕ) (t : Bool) → t ≡ false → (t && not (i == s)) ≡ false
absent_out s i true e = absurd (grind arith)
absent_out s i false e = refl

pub orderly_left_out : (xs : List ℕ) (s : ℕ) → orderly xs ≡ true → orderly (left_out xs s) ≡ true
unfolding left_out
orderly_left_out [] s o = o
orderly_left_out (x ∷ xs) s o =
    let w = ordered x xs o in
    let r = orderly_left_out xs s w.rest in
    ⊎_elim
    (λ (e : nat_eq x s ≡ true). ap orderly (cond-true (x == s) (left_out xs s) (x ∷ left_out xs s) e) ∙ r)
    (λ (e : nat_eq x s ≡ false).
    ap orderly (cond-false (x == s) (left_out xs s) (x ∷ left_out xs s) e)
    ∙ orderly_from x (left_out xs s) w.below (listed_left_out xs s x ∙ absent_out s x (listed xs x) w.once) r)
    (cases_Bool (x == s))

pub orderly_push : (xs : List ℕ) (s : ℕ) → orderly xs ≡ true → s < 128 → listed xs s ≡ false → orderly (xs ++ s ∷ []) ≡ true
unfolding listed orderly
orderly_push [] s o h n = orderly_from s [] h refl refl
orderly_push (x ∷ xs) s o h n =
    let w = ordered x xs o in
    let p = or_parts (s == x) (listed xs s) n in
    orderly_from x (xs ++ s ∷ []) w.below
    (listed_push xs s x ∙ ap₂ ◌||◌ w.once (ne_eqb x s (λ e. eqb-false s x p.0 (sym e))))
    (orderly_push xs s w.rest h p.1)

pub left_out_absent : (xs : List ℕ) (s : ℕ) → listed xs s ≡ false → left_out xs s ≡ xs
unfolding listed left_out
left_out_absent [] s h = refl
left_out_absent (x ∷ xs) s h =
    let p = or_parts (s == x) (listed xs s) h in
    cond-false (x == s) (left_out xs s) (x ∷ left_out xs s) (ne_eqb x s (λ e. eqb-false s x p.0 (sym e)))
    ∙ ap (λ ys. x ∷ ys) (left_out_absent xs s p.1)

-- a slot is not in the order that it left
pub left_out_gone : (xs : List ℕ) (s : ℕ) → listed (left_out xs s) s ≡ false
left_out_gone xs s = listed_left_out xs s s ∙ ap (λ b. listed xs s && not b) (eq-eqb s s refl) ∙ and_false (listed xs s)
  where
    and_false : (t : Bool) → (t && false) ≡ false
    and_false true = refl
    and_false false = refl

-- an order has at most 128 slots: below a bound, and each once
Under : ℕ → List ℕ → Type 0
Under n xs = (i : ℕ) → listed xs i ≡ true → i < n

shorter : (xs : List ℕ) (s : ℕ) → orderly xs ≡ true → length xs ≤ length (left_out xs s) + 1
unfolding left_out
shorter [] s o = omega arith
shorter (x ∷ xs) s o =
    let w = ordered x xs o in
    let i = shorter xs s w.rest in
    ⊎_elim
    (λ (e : x ≡ s).
    let q = cond-true (x == s) (left_out xs s) (x ∷ left_out xs s) (eq-eqb x s e) in
    let a = left_out_absent xs s (ap (listed xs) (sym e) ∙ w.once) in
    omega (arith, ap length q, ap length a))
    (λ (n : x ≡ s → ⊥). let q = cond-false (x == s) (left_out xs s) (x ∷ left_out xs s) (ne_eqb x s n) in omega (arith, ap length q))
    (cases_eq x s)

few : (n : ℕ) (xs : List ℕ) → orderly xs ≡ true → Under n xs → length xs ≤ n
unfolding listed Under
few n [] o u = omega arith
few zero (x ∷ xs) o u = absurd (omega (arith, u x (ap (λ t. t || listed xs x) (eq-eqb x x refl))))
few (suc n) (x ∷ xs) o u =
    let ys = x ∷ xs in
    let r = few n (left_out ys n) (orderly_left_out ys n o) (λ i h. next i (sym (listed_left_out ys n i) ∙ h)) in
    omega (arith, shorter ys n o)
  where
    next : (i : ℕ) → (listed (x ∷ xs) i && not (i == n)) ≡ true → i < n
    next i h =
        let p = and_parts (listed (x ∷ xs) i) (not (i == n)) h in
        let q = eqb-false i n (not-true (i == n) p.1) in
        let l = u i p.0 in
        omega arith

pub orderly_fits : (xs : List ℕ) → orderly xs ≡ true → length xs ≤ 128
unfolding Under
orderly_fits xs o = few 128 xs o (λ i h. listed_below xs i o h)

-- what a search for a slot finds
pub not_listed : (xs : List ℕ) (s : ℕ) → ((k : ℕ) → k < length xs → slice_index xs k ≢ s) → listed xs s ≡ false
unfolding listed
not_listed [] s h = refl
not_listed (x ∷ xs) s h =
    ap₂ ◌||◌ (ne_eqb s x (λ e. h 0 (omega arith) (sym e))) (not_listed xs s (λ k l. h (suc k) (omega arith)))

pub placed : (xs : List ℕ) (s p : ℕ) → orderly xs ≡ true → p < length xs → ((k : ℕ) → k < p → slice_index xs k ≢ s) → slice_index xs p ≡ s → remove xs p ≡ left_out xs s
unfolding left_out
placed [] s p o l b e = absurd (omega arith)
placed (x ∷ xs) s zero o l b e =
    sym (cond-true (x == s) (left_out xs s) (x ∷ left_out xs s) (eq-eqb x s e) ∙ left_out_absent xs s (ap (listed xs) (sym e) ∙ (ordered x xs o).once))
placed (x ∷ xs) s (suc p) o l b e =
    ap (λ ys. x ∷ ys) (placed xs s p (ordered x xs o).rest (omega arith) (λ k h. b (suc k) (omega arith)) e)
    ∙ sym (cond-false (x == s) (left_out xs s) (x ∷ left_out xs s) (ne_eqb x s (b 0 (omega arith))))

-- the first of the order is a filled slot
pub oldest_named : (xs : List ℕ) → MatchOption (oldest xs) ((i : ℕ) → listed xs i ≡ false) (λ s. listed xs s ≡ true)
unfolding listed oldest
oldest_named [] = λ i. refl
oldest_named (x ∷ xs) = ap (λ t. t || listed xs x) (eq-eqb x x refl)

pub oldest_is : (xs : List ℕ) (o : Option (Bor ℕ)) → IsGetResult xs 0 0 o → option_map (λ x. x.now) o ≡ oldest xs
unfolding oldest
oldest_is [] None h = refl
oldest_is [] (Some x) h = absurd (omega (arith, h.3.0))
oldest_is (x ∷ xs) None h = absurd (omega (arith, h.3))
oldest_is (x ∷ xs) (Some y) h = ap Some (h.3.1 0)

pub put_last_into : (xs : List ℕ) (s : ℕ) → s < 128 → put_last xs s ≡ left_out xs s ++ s ∷ []
put_last_into xs s h = cond-true (nat_lt s 128) (left_out xs s ++ s ∷ []) xs (lt-ltb s 128 h)

pub orderly_put : (xs : List ℕ) (s : ℕ) → orderly xs ≡ true → s < 128 → orderly (left_out xs s ++ s ∷ []) ≡ true
orderly_put xs s o h = orderly_push (left_out xs s) s (orderly_left_out xs s o) h (left_out_gone xs s)

pub room_to_put : (xs : List ℕ) (s : ℕ) → orderly xs ≡ true → s < 128 → length (left_out xs s) < 128
room_to_put xs s o h = omega (arith, orderly_fits (left_out xs s ++ s ∷ []) (orderly_put xs s o h), length-append (left_out xs s) (s ∷ []))

pub left_from : (xs ys : List ℕ) (s : ℕ) → orderly xs ≡ true → ys ≡ left_out xs s → Left xs ys s
left_from xs ys s o e =
    let last = λ (h : s < 128). ap (λ zs. zs ++ s ∷ []) e in
    record {
      is = e;
      ok = ap orderly e ∙ orderly_left_out xs s o;
      set = λ i. ap (λ zs. listed zs i) e ∙ listed_left_out xs s i;
      room = λ h. omega (arith, ap length e, room_to_put xs s o h);
      last = λ h. last h ∙ sym (put_last_into xs s h);
      last_ok = λ h. ap orderly (last h) ∙ orderly_put xs s o h;
      last_set = λ h i. ap (λ zs. listed zs i) (last h ∙ sym (put_last_into xs s h)) ∙ listed_put_last xs s i;
    }

pub first_from : (xs : List ℕ) (o : Option ℕ) → o ≡ oldest xs → FirstOf xs o
first_from xs o e =
    record { is = e; named = subst (λ r. MatchOption r ((i : ℕ) → listed xs i ≡ false) (λ s. listed xs s ≡ true)) (sym e) (oldest_named xs) }

-- the slot at the first place that it has is taken out
pub left_at : (xs ys : List ℕ) (s p : ℕ) → orderly xs ≡ true → position (λ x. x == s) xs ≡ Some p → ys ≡ remove xs p → Left xs ys s
left_at xs ys s p o e r =
    let at = λ (d : ℕ). position-Some (λ x. x == s) xs p d e in
    left_from xs ys s o (r ∙ placed xs s p o (at 0).0 (λ k l. eqb-false (slice_index xs k) s ((at 0).2 k l)) (eqb-true (slice_index xs p) s (at 0).1))

-- a slot that has no place
pub left_none : (xs : List ℕ) (s : ℕ) → orderly xs ≡ true → position (λ x. x == s) xs ≡ None → Left xs xs s
unfolding listed
left_none xs s o e = left_from xs xs s o (sym (left_out_absent xs s (unlisted xs (none_passes (λ x. x == s) xs e))))
  where
    unlisted : (ys : List ℕ) → AllByRecursion (λ y. (y == s) ≡ false) ys → listed ys s ≡ false
    unlisted [] h = refl
    unlisted (y ∷ ys) h = ap₂ ◌||◌ (ne_eqb s y (λ d. eqb-false y s h.0 (sym d))) (unlisted ys h.1)
