-- What the writes of an index do to its bits.
use Rattle.std.proofs.Common.{◌≡◌, ℕ, ◌^◌, ◌<◌, ◌≤◌, Bool, true, false, not, ◌&&◌, ◌||◌, eqb, ltb, List, length, get_or, set, replicate, sym, refl, ap, ◌∙◌, ap₂, ⊎_elim, arith}
use lib.Bits.{bit_and, bit_or, bit_xor}
use Rattle.std.proofs.lemmas.Bool.{cases_lt, cases_eq, eq-eqb, ne_eqb, lt-ltb, and_left, and_right}
use Rattle.std.proofs.lemmas.List.{get_or-set_same, get_or-set_other, get_or_past, get_or-replicate, length-replicate}
use Rattle.search.specs.Buckets.{bit, has, bit_of, Empty, Marked, Unmarked}
use Rattle.search.proofs.Digits.{bit_zero, bit_set_here, bit_set_other, bit_clear_here, bit_clear_other}

or_false : (x : Bool) → (x || false) ≡ x
or_false true = refl
or_false false = refl

or_true : (x : Bool) → (x || true) ≡ true
or_true true = refl
or_true false = refl

and_true : (x : Bool) → (x && true) ≡ x
and_true true = refl
and_true false = refl

and_false : (x : Bool) → (x && false) ≡ false
and_false true = refl
and_false false = refl

-- which bit is that of slot i in bucket b
bit_is : (b i : ℕ) → i < 128 → bit_of b i b i ≡ true
bit_is b i l = ap₂ ◌&&◌ (lt-ltb i 128 l) (ap₂ ◌&&◌ (eq-eqb b b refl) (eq-eqb i i refl))

bit_elsewhere : (b i c k : ℕ) → (c ≡ b → ⊥) → bit_of b i c k ≡ false
bit_elsewhere b i c k n = and_right (ltb i 128) (eqb c b && eqb k i) (and_left (eqb c b) (eqb k i) (ne_eqb c b n))

bit_aside : (b i c k : ℕ) → (k ≡ i → ⊥) → bit_of b i c k ≡ false
bit_aside b i c k n = and_right (ltb i 128) (eqb c b && eqb k i) (and_right (eqb c b) (eqb k i) (ne_eqb k i n))

-- no bit is set where every bucket is 0
pub empty_zeros : (n : ℕ) → Empty (replicate n 0)
empty_zeros n c k =
    ⊎_elim (λ (l : c < n). ap (λ x. bit x k) (get_or-replicate n c 0 0 l) ∙ bit_zero k)
    (λ (l : n ≤ c). ap (λ x. bit x k) (get_or_past (replicate n 0) c 0 (omega (arith, length-replicate {A = ℕ} n 0))) ∙ bit_zero k)
    (cases_lt c n)

module _ (before : List ℕ) (b i : ℕ) (l : b < length before) (m : i < 128) where
  pub marked_set : Marked before (set before b (bit_or (get_or before b 0) (2 ^ i))) b i
  marked_set c k =
      let w = bit_or (get_or before b 0) (2 ^ i) in
      ⊎_elim
      (λ (q : c ≡ b).
      ap (λ x. has (set before b w) x k) q ∙ ap (λ x. bit x k) (get_or-set_same before b w 0 l)
      ∙ ⊎_elim
      (λ (r : k ≡ i).
      ap (bit w) r ∙ bit_set_here (get_or before b 0) i
      ∙ sym (ap₂ (λ x y. has before c k || bit_of b i x y) q r ∙ ap (λ t. has before c k || t) (bit_is b i m) ∙ or_true (has before c k)))
      (λ (r : k ≡ i → ⊥).
      bit_set_other (get_or before b 0) i k r ∙ ap (λ x. has before x k) (sym q)
      ∙ sym (ap (λ t. has before c k || t) (bit_aside b i c k r) ∙ or_false (has before c k)))
      (cases_eq k i))
      (λ (q : c ≡ b → ⊥).
      ap (λ x. bit x k) (get_or-set_other before b c w 0 q)
      ∙ sym (ap (λ t. has before c k || t) (bit_elsewhere b i c k q) ∙ or_false (has before c k)))
      (cases_eq c b)

  pub unmarked_set : Unmarked before (set before b (bit_xor (get_or before b 0) (bit_and (get_or before b 0) (2 ^ i)))) b i
  unmarked_set c k =
      let w = bit_xor (get_or before b 0) (bit_and (get_or before b 0) (2 ^ i)) in
      ⊎_elim
      (λ (q : c ≡ b).
      ap (λ x. has (set before b w) x k) q ∙ ap (λ x. bit x k) (get_or-set_same before b w 0 l)
      ∙ ⊎_elim
      (λ (r : k ≡ i).
      ap (bit w) r ∙ bit_clear_here (get_or before b 0) i
      ∙ sym (ap₂ (λ x y. has before c k && not (bit_of b i x y)) q r ∙ ap (λ t. has before c k && not t) (bit_is b i m) ∙ and_false (has before c k)))
      (λ (r : k ≡ i → ⊥).
      bit_clear_other (get_or before b 0) i k r ∙ ap (λ x. has before x k) (sym q)
      ∙ sym (ap (λ t. has before c k && not t) (bit_aside b i c k r) ∙ and_true (has before c k)))
      (cases_eq k i))
      (λ (q : c ≡ b → ⊥).
      ap (λ x. bit x k) (get_or-set_other before b c w 0 q)
      ∙ sym (ap (λ t. has before c k && not t) (bit_elsewhere b i c k q) ∙ and_true (has before c k)))
      (cases_eq c b)
