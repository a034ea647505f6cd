-- The lowest set digit of a number, and the number without it.
use Rattle.std.proofs.Common.{◌≡◌, ℕ, zero, suc, ◌-◌, ◌/◌, ◌%◌, ◌^◌, ◌<◌, true, false, eqb, sym, refl, ap, ◌∙◌, pow-suc, arith}
use lib.Bits.{bit_and, bit_or, and_shr, and_mod, and_self, and_zero_r, or_shr, or_mod, or_zero_r, bit_xor, xor_shr, xor_mod, xor_zero_r}
use lib.Count.{count_trailing_zeros, under}
use Rattle.search.specs.Buckets.{digit_at, bit}

pub digit_zero : (i : ℕ) → digit_at 0 i ≡ 0
unfolding digit_at
digit_zero zero = refl
digit_zero (suc i) = digit_zero i

-- t is the place of the lowest set digit of n, and m is n without it
pub record Lowest (n m t k : ℕ) : Type 0 where
  pub here : digit_at n t ≡ 1
  pub below : (i : ℕ) → i < t → digit_at n i ≡ 0
  pub within : t < k
  pub gone : digit_at m t ≡ 0
  pub others : (i : ℕ) → (i ≡ t → ⊥) → digit_at m i ≡ digit_at n i

half : (n : ℕ) → n % 2 ≡ 0 → bit_and n (n - 1) / 2 ≡ bit_and (n / 2) (n / 2 - 1)
half n e = and_shr n (n - 1) 1 ∙ ap (bit_and (n / 2)) (omega arith)

even : (n : ℕ) → n % 2 ≡ 0 → bit_and n (n - 1) % 2 ≡ 0
even n e = and_mod n (n - 1) 1 ∙ ap (λ x. bit_and x ((n - 1) % 2)) e

half_odd : (n : ℕ) → n % 2 ≡ 1 → bit_and n (n - 1) / 2 ≡ n / 2
half_odd n e = and_shr n (n - 1) 1 ∙ ap (bit_and (n / 2)) (omega arith) ∙ and_self (n / 2)

even_odd : (n : ℕ) → n % 2 ≡ 1 → bit_and n (n - 1) % 2 ≡ 0
even_odd n e = let z : (n - 1) % 2 ≡ 0 = omega arith in and_mod n (n - 1) 1 ∙ ap (bit_and (n % 2)) z ∙ and_zero_r (n % 2)

-- one digit more, at an even number and at an odd one
more : (k n t r : ℕ) → n % 2 ≡ r → (r ≡ 0 → Lowest (n / 2) (bit_and (n / 2) (n / 2 - 1)) t k) → Lowest n (bit_and n (n - 1)) (under r t) (suc k)
unfolding digit_at
more k n t zero e f =
    let l = f refl in
    record {
      here = l.here;
      below = λ i. elim i as (λ i. i < suc t → digit_at n i ≡ 0) [ zero ↦ λ h. e | suc i ↦ λ h. l.below i (omega arith) ];
      within = omega (arith, l.within);
      gone = ap (λ x. digit_at x t) (half n e) ∙ l.gone;
      others = λ i. elim i as (λ i. (i ≡ suc t → ⊥) → digit_at (bit_and n (n - 1)) i ≡ digit_at n i) [ zero ↦ λ h. even n e ∙ sym e | suc i ↦ λ h. ap (λ x. digit_at x i) (half n e) ∙ l.others i (λ q. h (ap suc q)) ];
    }
more k n t (suc d) e f =
    let o : n % 2 ≡ 1 = omega arith in
    record {
      here = o;
      below = λ i h. absurd (omega arith);
      within = omega arith;
      gone = even_odd n o;
      others = λ i. elim i as (λ i. (i ≡ 0 → ⊥) → digit_at (bit_and n (n - 1)) i ≡ digit_at n i) [ zero ↦ λ h. absurd (h refl) | suc i ↦ λ h. ap (λ x. digit_at x i) (half_odd n o) ];
    }

pub lowest : (k n : ℕ) → 0 < n → n < 2 ^ k → Lowest n (bit_and n (n - 1)) (count_trailing_zeros k n) k
unfolding count_trailing_zeros
lowest zero n p q = absurd (omega arith)
lowest (suc k) n p q =
    more k n (count_trailing_zeros k (n / 2)) (n % 2) refl (λ e. lowest k (n / 2) (omega arith) (omega (arith, pow-suc 2 k)))

-- a number with digit i set
power_half : (i : ℕ) → 2 ^ suc i / 2 ≡ 2 ^ i
power_half i = omega (arith, pow-suc 2 i)

power_even : (i : ℕ) → 2 ^ suc i % 2 ≡ 0
power_even i = omega (arith, pow-suc 2 i)

or_half : (n i : ℕ) → bit_or n (2 ^ suc i) / 2 ≡ bit_or (n / 2) (2 ^ i)
or_half n i = or_shr n (2 ^ suc i) 1 ∙ ap (bit_or (n / 2)) (power_half i)

or_even : (n i : ℕ) → bit_or n (2 ^ suc i) % 2 ≡ n % 2
or_even n i = or_mod n (2 ^ suc i) 1 ∙ ap (bit_or (n % 2)) (power_even i) ∙ or_zero_r (n % 2)

or_odd : (r : ℕ) → r < 2 → bit_or r 1 ≡ 1
or_odd zero h = refl
or_odd (suc zero) h = refl
or_odd (suc (suc r)) h = absurd (omega arith)

pub set_here : (n i : ℕ) → digit_at (bit_or n (2 ^ i)) i ≡ 1
unfolding digit_at
set_here n zero = or_mod n 1 1 ∙ or_odd (n % 2) (omega arith)
set_here n (suc i) = ap (λ x. digit_at x i) (or_half n i) ∙ set_here (n / 2) i

pub set_other : (n i k : ℕ) → (k ≡ i → ⊥) → digit_at (bit_or n (2 ^ i)) k ≡ digit_at n k
unfolding digit_at
set_other n zero zero h = absurd (h refl)
set_other n zero (suc k) h = ap (λ x. digit_at x k) (or_shr n 1 1 ∙ or_zero_r (n / 2))
set_other n (suc i) zero h = or_even n i
set_other n (suc i) (suc k) h = ap (λ x. digit_at x k) (or_half n i) ∙ set_other (n / 2) i k (λ e. h (ap suc e))

-- a number with digit i cleared
clear_half : (n i : ℕ) → bit_xor n (bit_and n (2 ^ suc i)) / 2 ≡ bit_xor (n / 2) (bit_and (n / 2) (2 ^ i))
clear_half n i =
    xor_shr n (bit_and n (2 ^ suc i)) 1 ∙ ap (bit_xor (n / 2)) (and_shr n (2 ^ suc i) 1 ∙ ap (bit_and (n / 2)) (power_half i))

clear_even : (n i : ℕ) → bit_xor n (bit_and n (2 ^ suc i)) % 2 ≡ n % 2
clear_even n i =
    xor_mod n (bit_and n (2 ^ suc i)) 1
    ∙ ap (bit_xor (n % 2)) (and_mod n (2 ^ suc i) 1 ∙ ap (bit_and (n % 2)) (power_even i) ∙ and_zero_r (n % 2))
    ∙ xor_zero_r (n % 2)

clear_odd : (r : ℕ) → r < 2 → bit_xor r (bit_and r 1) ≡ 0
clear_odd zero h = refl
clear_odd (suc zero) h = refl
clear_odd (suc (suc r)) h = absurd (omega arith)

pub clear_here : (n i : ℕ) → digit_at (bit_xor n (bit_and n (2 ^ i))) i ≡ 0
unfolding digit_at
clear_here n zero =
    xor_mod n (bit_and n 1) 1 ∙ ap (bit_xor (n % 2)) (and_mod n 1 1) ∙ clear_odd (n % 2) (omega arith)
clear_here n (suc i) = ap (λ x. digit_at x i) (clear_half n i) ∙ clear_here (n / 2) i

pub clear_other : (n i k : ℕ) → (k ≡ i → ⊥) → digit_at (bit_xor n (bit_and n (2 ^ i))) k ≡ digit_at n k
unfolding digit_at
clear_other n zero zero h = absurd (h refl)
clear_other n zero (suc k) h =
    ap (λ x. digit_at x k) (xor_shr n (bit_and n 1) 1 ∙ ap (bit_xor (n / 2)) (and_shr n 1 1 ∙ and_zero_r (n / 2)) ∙ xor_zero_r (n / 2))
clear_other n (suc i) zero h = clear_even n i
clear_other n (suc i) (suc k) h = ap (λ x. digit_at x k) (clear_half n i) ∙ clear_other (n / 2) i k (λ e. h (ap suc e))

-- the same of bits ----------------------------------------------------------------------------------------

pub bit_zero : (i : ℕ) → bit 0 i ≡ false
unfolding bit
bit_zero i = ap (λ x. eqb x 1) (digit_zero i)

pub bit_set_here : (n i : ℕ) → bit (bit_or n (2 ^ i)) i ≡ true
unfolding bit
bit_set_here n i = ap (λ x. eqb x 1) (set_here n i)

pub bit_set_other : (n i k : ℕ) → (k ≡ i → ⊥) → bit (bit_or n (2 ^ i)) k ≡ bit n k
unfolding bit
bit_set_other n i k h = ap (λ x. eqb x 1) (set_other n i k h)

pub bit_clear_here : (n i : ℕ) → bit (bit_xor n (bit_and n (2 ^ i))) i ≡ false
unfolding bit
bit_clear_here n i = ap (λ x. eqb x 1) (clear_here n i)

pub bit_clear_other : (n i k : ℕ) → (k ≡ i → ⊥) → bit (bit_xor n (bit_and n (2 ^ i))) k ≡ bit n k
unfolding bit
bit_clear_other n i k h = ap (λ x. eqb x 1) (clear_other n i k h)

-- t is the place of the lowest set bit of n, and m is n without it
pub record LowestBit (n m t k : ℕ) : Type 0 where
  pub here : bit n t ≡ true
  pub below : (i : ℕ) → i < t → bit n i ≡ false
  pub within : t < k
  pub gone : bit m t ≡ false
  pub others : (i : ℕ) → (i ≡ t → ⊥) → bit m i ≡ bit n i

pub lowest_bit : (k n : ℕ) → 0 < n → n < 2 ^ k → LowestBit n (bit_and n (n - 1)) (count_trailing_zeros k n) k
unfolding bit
lowest_bit k n p q =
    let l = lowest k n p q in
    record {
      here = ap (λ x. eqb x 1) l.here;
      below = λ i h. ap (λ x. eqb x 1) (l.below i h);
      within = l.within;
      gone = ap (λ x. eqb x 1) l.gone;
      others = λ i h. ap (λ x. eqb x 1) (l.others i h);
    }
