-- Laws of bitmaps.
use Rattle.std.specs.Prelude.{◌≡◌, ℕ, zero, suc, ◌+◌, ◌-◌, ◌/◌, ◌%◌, ◌^◌, ◌<◌, ◌≤◌, Bool, true, false, not, ◌&&◌, ◌||◌, eqb, ◌==◌, ◌≢◌, bit_and, bit_or, nat_le, nat_lt, refl}
use Rattle.std.proofs.Common.{sym, ap, ap₂, ◌∙◌, ⊎_elim, pow-suc, mod-eq_of_lt, arith, pow_pos}
use Rattle.std.proofs.Math.Path.{fun_ext}
use Rattle.std.proofs.Math.Dec.{eqb-suc-suc, eqb-zero-suc, eqb-suc-zero}
use Rattle.std.specs.Int.Count.{count_trailing_zeros, under}
use Rattle.std.specs.Int.Bits.{or_zero_r}
use Rattle.std.proofs.lemmas.Nat.{shr-shr, shr_le, pow_below, and_le_l, and_shr, and_mod, and_mask, or_shr, or_mod}
use Rattle.std.proofs.lemmas.Bool.{lt-ltb, cases_eq, cases_Bool, both_ways, and_cases, and_parts, not-true, not-false}
use Rattle.std.proofs.lemmas.Bool.Decides.{nat_tests}
use Rattle.eviction.specs.Sets.{with_slot, without_slot, without_between, Covered, FirstApart}
use Rattle.eviction.specs.Bitmaps.{in_set}

pub in_set_none : (i : ℕ) → in_set 0 i ≡ false
unfolding in_set
in_set_none zero = refl
in_set_none (suc i) = in_set_none i

pub in_set_below : (w n i : ℕ) → n < 2 ^ w → in_set n i ≡ true → i < w
unfolding in_set
in_set_below zero n i l h =
    let z : n ≡ 0 = omega arith in
    absurd (clash (in_set n i) h (ap (λ x. in_set x i) z ∙ in_set_none i))
  where
    clash : (t : Bool) → t ≡ true → t ≢ false
    clash true a b = grind arith
    clash false a b = grind arith
in_set_below (suc w) n zero l h = omega arith
in_set_below (suc w) n (suc i) l h = let r = in_set_below w (n / 2) i (omega (arith, pow-suc 2 w)) h in omega arith

-- the test of a bit
pub in_set_shift : (n i : ℕ) → in_set n i ≡ (n / 2 ^ i % 2 == 1)
unfolding in_set
in_set_shift n zero = ap (λ x. eqb (x % 2) 1) (omega arith)
in_set_shift n (suc i) = in_set_shift (n / 2) i ∙ ap (λ x. eqb (x % 2) 1) (shr-shr n 1 i ∙ ap (λ k. n / 2 ^ k) (omega arith))

pub in_set_test : (n i : ℕ) → (bit_and (n / 2 ^ i) 1 == 1) ≡ in_set n i
in_set_test n i = ap (λ x. eqb x 1) (and_mask (n / 2 ^ i) 1) ∙ sym (in_set_shift n i)

-- a bit set
pub in_set_with : (n s i : ℕ) → in_set (bit_or n (2 ^ s)) i ≡ (in_set n i || i == s)
unfolding in_set
in_set_with n zero zero = ap (λ x. eqb x 1) (or_mod n 1 1) ∙ low (n % 2) (omega arith)
  where
    low : (r : ℕ) → r < 2 → (bit_or r 1 == 1) ≡ (r == 1 || true)
    low zero h = refl
    low (suc zero) h = refl
    low (suc (suc r)) h = absurd (omega arith)
in_set_with n zero (suc i) =
    ap (λ x. in_set x i) (or_shr n 1 1 ∙ or_zero_r (n / 2)) ∙ or_none (in_set (n / 2) i)
    ∙ ap (λ t. in_set (n / 2) i || t) (sym (eqb-suc-zero i))
  where
    or_none : (t : Bool) → t ≡ (t || false)
    or_none true = refl
    or_none false = refl
in_set_with n (suc s) zero =
    ap (λ x. eqb x 1) (or_mod n (2 ^ suc s) 1 ∙ ap (bit_or (n % 2)) even ∙ or_zero_r (n % 2)) ∙ or_none (n % 2 == 1)
    ∙ ap (λ t. (n % 2 == 1) || t) (sym (eqb-zero-suc s))
  where
    even : 2 ^ suc s % 2 ≡ 0
    even = omega (arith, pow-suc 2 s)

    or_none : (t : Bool) → t ≡ (t || false)
    or_none true = refl
    or_none false = refl
in_set_with n (suc s) (suc i) =
    ap (λ x. in_set x i) (or_shr n (2 ^ suc s) 1 ∙ ap (bit_or (n / 2)) half) ∙ in_set_with (n / 2) s i
    ∙ ap (λ t. in_set (n / 2) i || t) (sym (eqb-suc-suc i s))
  where
    half : 2 ^ suc s / 2 ≡ 2 ^ s
    half = omega (arith, pow-suc 2 s)

-- a bit cleared, of a number of w bits
pub in_set_without : (w n s i : ℕ) → n < 2 ^ w → s < w → in_set (bit_and n ((2 ^ w - 1) - 2 ^ s)) i ≡ (in_set n i && not (i == s))
unfolding in_set
in_set_without zero n s i l h = absurd (omega arith)
in_set_without (suc w) n zero zero l h =
    ap (λ x. eqb x 1) (and_mod n ((2 ^ suc w - 1) - 1) 1 ∙ ap (bit_and (n % 2)) even) ∙ low (n % 2) (omega arith)
  where
    even : ((2 ^ suc w - 1) - 1) % 2 ≡ 0
    even = omega (arith, pow-suc 2 w, pow_pos w)

    low : (r : ℕ) → r < 2 → (bit_and r 0 == 1) ≡ (r == 1 && false)
    low zero k = refl
    low (suc zero) k = refl
    low (suc (suc r)) k = absurd (omega arith)
in_set_without (suc w) n zero (suc i) l h =
    ap (λ x. in_set x i)
    (and_shr n ((2 ^ suc w - 1) - 1) 1 ∙ ap (bit_and (n / 2)) half ∙ and_mask (n / 2) w ∙ whole)
    ∙ and_all (in_set (n / 2) i)
    ∙ ap (λ t. in_set (n / 2) i && not t) (sym (eqb-suc-zero i))
  where
    half : ((2 ^ suc w - 1) - 1) / 2 ≡ 2 ^ w - 1
    half = omega (arith, pow-suc 2 w, pow_pos w)

    whole : n / 2 % 2 ^ w ≡ n / 2
    whole = mod-eq_of_lt (omega (arith, pow-suc 2 w))

    and_all : (t : Bool) → t ≡ (t && true)
    and_all true = refl
    and_all false = refl
in_set_without (suc w) n (suc s) zero l h =
    ap (λ x. eqb x 1) (and_mod n ((2 ^ suc w - 1) - 2 ^ suc s) 1 ∙ ap (bit_and (n % 2)) odd) ∙ low (n % 2) (omega arith)
    ∙ ap (λ t. (n % 2 == 1) && not t) (sym (eqb-zero-suc s))
  where
    odd : ((2 ^ suc w - 1) - 2 ^ suc s) % 2 ≡ 1
    odd = omega (arith, pow-suc 2 w, pow-suc 2 s, pow_below s w (omega arith))

    low : (r : ℕ) → r < 2 → (bit_and r 1 == 1) ≡ (r == 1 && true)
    low zero k = refl
    low (suc zero) k = refl
    low (suc (suc r)) k = absurd (omega arith)
in_set_without (suc w) n (suc s) (suc i) l h =
    ap (λ x. in_set x i) (and_shr n ((2 ^ suc w - 1) - 2 ^ suc s) 1 ∙ ap (bit_and (n / 2)) half)
    ∙ in_set_without w (n / 2) s i (omega (arith, pow-suc 2 w)) (omega arith)
    ∙ ap (λ t. in_set (n / 2) i && not t) (sym (eqb-suc-suc i s))
  where
    half : ((2 ^ suc w - 1) - 2 ^ suc s) / 2 ≡ (2 ^ w - 1) - 2 ^ s
    half = omega (arith, pow-suc 2 w, pow-suc 2 s, pow_below s w (omega arith))

-- the sets of the bitmaps that the program makes, of 128 bits
pub with_is : (n s p : ℕ) → s < 128 → p ≡ 2 ^ s → in_set (bit_or n p) ≡ with_slot (in_set n) s
with_is n s p h e =
    fun_ext (λ i. ap (λ q. in_set (bit_or n q) i) e ∙ in_set_with n s i ∙ inside (in_set n i) (i == s) ∙ ap (λ b. in_set n i || (i == s && b)) (sym (lt-ltb s 128 h)))
  where
    inside : (t u : Bool) → (t || u) ≡ (t || (u && true))
    inside true u = refl
    inside false true = refl
    inside false false = refl

pub without_is : (n s p : ℕ) → n < 2 ^ 128 → s < 128 → p ≡ 2 ^ s → in_set (bit_and n ((2 ^ 128 - 1) - p)) ≡ without_slot (in_set n) s
without_is n s p l h e = fun_ext (λ i. ap (λ q. in_set (bit_and n ((2 ^ 128 - 1) - q)) i) e ∙ in_set_without 128 n s i l h)

-- digit by digit
and_bit : (a b : ℕ) → a < 2 → b < 2 → (bit_and a b == 1) ≡ (a == 1 && b == 1)
and_bit zero b h k = refl
and_bit (suc zero) zero h k = refl
and_bit (suc zero) (suc zero) h k = refl
and_bit (suc zero) (suc (suc b)) h k = absurd (omega arith)
and_bit (suc (suc a)) b h k = absurd (omega arith)

pub in_set_and : (a b i : ℕ) → in_set (bit_and a b) i ≡ (in_set a i && in_set b i)
unfolding in_set
in_set_and a b zero = ap (λ x. eqb x 1) (and_mod a b 1) ∙ and_bit (a % 2) (b % 2) (omega arith) (omega arith)
in_set_and a b (suc i) = ap (λ x. in_set x i) (and_shr a b 1) ∙ in_set_and (a / 2) (b / 2) i

not_bit : (a b : ℕ) → a + b ≡ 1 → (a == 1) ≡ not (b == 1)
not_bit zero b h = sym (ap (λ x. not (x == 1)) (let e : b ≡ 1 = omega arith in e))
not_bit (suc zero) b h = sym (ap (λ x. not (x == 1)) (let e : b ≡ 0 = omega arith in e))
not_bit (suc (suc a)) b h = absurd (omega arith)

-- the bits of the complement in w bits
pub in_set_not : (w n i : ℕ) → n < 2 ^ w → i < w → in_set ((2 ^ w - 1) - n) i ≡ not (in_set n i)
unfolding in_set
in_set_not zero n i l h = absurd (omega arith)
in_set_not (suc w) n zero l h = not_bit (((2 ^ suc w - 1) - n) % 2) (n % 2) (omega (arith, pow-suc 2 w))
in_set_not (suc w) n (suc i) l h =
    let half : ((2 ^ suc w - 1) - n) / 2 ≡ (2 ^ w - 1) - n / 2 = omega (arith, pow-suc 2 w) in
    ap (λ x. in_set x i) half ∙ in_set_not w (n / 2) i (omega (arith, pow-suc 2 w)) (omega arith)

-- a run of bits
pub in_set_low : (t i : ℕ) → in_set (2 ^ t - 1) i ≡ nat_lt i t
unfolding in_set
in_set_low zero i = in_set_none i ∙ grind (arith, nat_tests)
in_set_low (suc t) zero =
    let odd : (2 ^ suc t - 1) % 2 ≡ 1 = omega (arith, pow-suc 2 t, pow_pos t) in
    ap (λ x. eqb x 1) odd ∙ grind (arith, nat_tests)
in_set_low (suc t) (suc i) =
    let half : (2 ^ suc t - 1) / 2 ≡ 2 ^ t - 1 = omega (arith, pow-suc 2 t, pow_pos t) in
    ap (λ x. in_set x i) half ∙ in_set_low t i ∙ grind (arith, nat_tests)

pub in_set_range : (h t i : ℕ) → h ≤ t → in_set (2 ^ t - 2 ^ h) i ≡ (nat_le h i && nat_lt i t)
unfolding in_set
in_set_range zero t i l = in_set_low t i ∙ grind (arith, nat_tests)
in_set_range (suc h) zero i l = absurd (omega arith)
in_set_range (suc h) (suc t) zero l =
    let even : (2 ^ suc t - 2 ^ suc h) % 2 ≡ 0 = omega (arith, pow-suc 2 t, pow-suc 2 h) in
    ap (λ x. eqb x 1) even ∙ grind (arith, nat_tests)
in_set_range (suc h) (suc t) (suc i) l =
    let half : (2 ^ suc t - 2 ^ suc h) / 2 ≡ 2 ^ t - 2 ^ h = omega (arith, pow-suc 2 t, pow-suc 2 h) in
    ap (λ x. in_set x i) half ∙ in_set_range h t i (omega arith) ∙ grind (arith, nat_tests)

-- a shift
pub in_set_shr : (n h i : ℕ) → in_set (n / 2 ^ h) i ≡ in_set n (h + i)
in_set_shr n h i =
    in_set_shift (n / 2 ^ h) i ∙ ap (λ x. eqb (x % 2) 1) (shr-shr n h i) ∙ sym (in_set_shift n (h + i))

-- the lowest bit that is set
pub record Lowest (n t k : ℕ) : Type 0 where
  pub here : in_set n t ≡ true
  pub under_it : (i : ℕ) → i < t → in_set n i ≡ false
  pub within : t < k

lowest_more : (k n t r : ℕ) → n % 2 ≡ r → (r ≡ 0 → Lowest (n / 2) t k) → Lowest n (under r t) (suc k)
unfolding in_set
lowest_more k n t zero e f =
    let l = f refl in
    record {
      here = l.here;
      under_it = λ i. elim i as (λ i. i < suc t → in_set n i ≡ false) [ zero ↦ λ h. ap (λ x. eqb x 1) e | suc i ↦ λ h. l.under_it i (omega arith) ];
      within = omega (arith, l.within);
    }
lowest_more k n t (suc d) e f =
    let o : n % 2 ≡ 1 = omega arith in
    record { here = ap (λ x. eqb x 1) o; under_it = λ i h. absurd (omega arith); within = omega arith }

pub lowest : (k n : ℕ) → 0 < n → n < 2 ^ k → Lowest n (count_trailing_zeros k n) k
unfolding count_trailing_zeros
lowest zero n p q = absurd (omega arith)
lowest (suc k) n p q =
    lowest_more k n (count_trailing_zeros k (n / 2)) (n % 2) refl (λ e. lowest k (n / 2) (omega arith) (omega (arith, pow-suc 2 k)))

-- the bits of one number that are not in another
pub in_set_apart : (w n m i : ℕ) → n < 2 ^ w → m < 2 ^ w → in_set (bit_and n ((2 ^ w - 1) - m)) i ≡ (in_set n i && not (in_set m i))
in_set_apart w n m i l k = in_set_and n ((2 ^ w - 1) - m) i ∙ ⊎_elim here gone (cases_Bool (in_set n i))
  where
    here : in_set n i ≡ true → (in_set n i && in_set ((2 ^ w - 1) - m) i) ≡ (in_set n i && not (in_set m i))
    here e = ap (λ t. in_set n i && t) (in_set_not w m i k (in_set_below w n i l e))

    gone : in_set n i ≡ false → (in_set n i && in_set ((2 ^ w - 1) - m) i) ≡ (in_set n i && not (in_set m i))
    gone e = ap (λ t. t && in_set ((2 ^ w - 1) - m) i) e ∙ sym (ap (λ t. t && not (in_set m i)) e)

pub without_between_is : (n from to p q : ℕ) → n < 2 ^ 128 → from ≤ to → to < 128 → p ≡ 2 ^ to → q ≡ 2 ^ from → in_set (bit_and n ((2 ^ 128 - 1) - (p - q))) ≡ without_between (in_set n) from to
without_between_is n from to p q l h k e f =
    fun_ext (λ i.
    ap₂ (λ x y. in_set (bit_and n ((2 ^ 128 - 1) - (x - y))) i) e f
    ∙ in_set_apart 128 n (2 ^ to - 2 ^ from) i l (omega (arith, pow_below to 128 k))
    ∙ ap (λ t. in_set n i && not t) (in_set_range from to i h))

pub below_is : (n end p : ℕ) → n < 2 ^ 128 → end < 128 → p ≡ 2 ^ end → in_set (bit_and n (p - 1)) ≡ without_between (in_set n) end 128
below_is n end p l k e =
    fun_ext (λ i.
    ap (λ x. in_set (bit_and n (x - 1)) i) e
    ∙ in_set_and n (2 ^ end - 1) i ∙ ap (λ t. in_set n i && t) (in_set_low end i)
    ∙ ⊎_elim (here i) (gone i) (cases_Bool (in_set n i)))
  where
    cut : (i : ℕ) → i < 128 → nat_lt i end ≡ not (nat_le end i && nat_lt i 128)
    cut i h = grind (arith, nat_tests)

    here : (i : ℕ) → in_set n i ≡ true → (in_set n i && nat_lt i end) ≡ without_between (in_set n) end 128 i
    here i b = ap (λ t. in_set n i && t) (cut i (in_set_below 128 n i l b))

    gone : (i : ℕ) → in_set n i ≡ false → (in_set n i && nat_lt i end) ≡ without_between (in_set n) end 128 i
    gone i b = ap (λ t. t && nat_lt i end) b ∙ sym (ap (λ t. t && not (nat_le end i && nat_lt i 128)) b)

module _ (set other from : ℕ) (l : set < 2 ^ 128) (k : other < 2 ^ 128) (h : from < 128) where
  apart_at : (i : ℕ) → from ≤ i → in_set (bit_and set ((2 ^ 128 - 1) - other) / 2 ^ from) (i - from) ≡ (in_set set i && not (in_set other i))
  apart_at i o =
      in_set_shr (bit_and set ((2 ^ 128 - 1) - other)) from (i - from)
      ∙ ap (in_set (bit_and set ((2 ^ 128 - 1) - other))) (let e : from + (i - from) ≡ i = omega arith in e)
      ∙ in_set_apart 128 set other i l k

  pass : (i : ℕ) → (in_set set i && not (in_set other i)) ≡ false → in_set set i ≡ true → in_set other i ≡ true
  pass i e s = ⊎_elim (λ (f : in_set set i ≡ false). absurd (both_ways (in_set set i) f s)) (λ f. not-false (in_set other i) f) (and_cases (in_set set i) (not (in_set other i)) e)

  pub none_apart : bit_and set ((2 ^ 128 - 1) - other) / 2 ^ from ≡ 0 → Covered (in_set set) (in_set other) from 128
  none_apart z i o u s = pass i (sym (apart_at i o) ∙ ap (λ x. in_set x (i - from)) z ∙ in_set_none (i - from)) s

  pub first_apart : 0 < bit_and set ((2 ^ 128 - 1) - other) / 2 ^ from → FirstApart (in_set set) (in_set other) from (from + count_trailing_zeros 128 (bit_and set ((2 ^ 128 - 1) - other) / 2 ^ from))
  first_apart p =
      let n = bit_and set ((2 ^ 128 - 1) - other) / 2 ^ from in
      let t = count_trailing_zeros 128 n in
      let low = lowest 128 n p (omega (arith, and_le_l set ((2 ^ 128 - 1) - other), shr_le (bit_and set ((2 ^ 128 - 1) - other)) from)) in
      let at = and_parts (in_set set (from + t)) (not (in_set other (from + t))) (sym (apart_at (from + t) (omega arith)) ∙ ap (in_set n) (let e : (from + t) - from ≡ t = omega arith in e) ∙ low.here) in
      record {
        from_on = omega arith;
        a_slot = in_set_below 128 set (from + t) l at.0;
        inside = at.0;
        outside = not-true (in_set other (from + t)) at.1;
        first = λ i o u s. pass i (sym (apart_at i o) ∙ low.under_it (i - from) (omega arith)) s;
      }

-- a number with no bit set is 0
pub in_set_some : (n : ℕ) → n < 2 ^ 128 → (n ≢ 0) → (i : ℕ) × ((i < 128) × (in_set n i ≡ true))
in_set_some n l z =
    let w = lowest 128 n (omega arith) l in (count_trailing_zeros 128 n, (w.within, w.here))

pub pow_up : (i j : ℕ) → i ≤ j → 2 ^ i ≤ 2 ^ j
pow_up i j h = ⊎_elim (λ (e : i ≡ j). omega (arith, ap (λ k. 2 ^ k) e)) (λ (n : i ≡ j → ⊥). omega (arith, pow_below i j (omega arith))) (cases_eq i j)

-- a slot above 127 is in no set
pub without_past : (n s : ℕ) → n < 2 ^ 128 → 128 ≤ s → in_set n ≡ without_slot (in_set n) s
without_past n s l h = fun_ext (λ i. ⊎_elim (here i) (gone i) (cases_Bool (in_set n i)))
  where
    other : (i : ℕ) → i < 128 → not (i == s) ≡ true
    other i k = grind (arith, nat_tests)

    here : (i : ℕ) → in_set n i ≡ true → in_set n i ≡ without_slot (in_set n) s i
    here i e = e ∙ sym (ap₂ ◌&&◌ e (other i (in_set_below 128 n i l e)))

    gone : (i : ℕ) → in_set n i ≡ false → in_set n i ≡ without_slot (in_set n) s i
    gone i e = e ∙ sym (ap (λ t. t && not (i == s)) e)

pub past_out : (n s : ℕ) → n < 2 ^ 128 → 128 ≤ s → in_set n s ≡ false
past_out n s l h = ⊎_elim (λ (e : in_set n s ≡ true). absurd (omega (arith, in_set_below 128 n s l e))) (λ (e : in_set n s ≡ false). e) (cases_Bool (in_set n s))
