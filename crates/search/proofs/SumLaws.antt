-- The weighted sum, one byte after another.
use Rattle.std.proofs.Common.{◌≡◌, ℕ, ◌+◌, ◌*◌, ◌/◌, ◌%◌, List, get_or, sym, refl, ap, ◌∙◌, add-one, arith}
use lib.Bits.{bit_and}
use Rattle.flow.specs.Masks.{masked}
use Rattle.flow.proofs.MaskLaws.{masked_at}
use Rattle.search.specs.Sums.{sum_below, weights, products}

pub sum_none : (f : ℕ → ℕ) → sum_below f 0 ≡ 0
unfolding sum_below
sum_none f = refl

pub sum_more : (f : ℕ → ℕ) (n : ℕ) → sum_below f (n + 1) ≡ sum_below f n + f n
unfolding sum_below
sum_more f n = ap (sum_below f) (add-one n)

-- a sum modulo 2^16 with one product more
wrapped : (s t p : ℕ) → s ≡ t % 65536 → (s + p % 65536) % 65536 ≡ (t + p) % 65536
wrapped s t p e = omega (arith, e)

pub sum_step : (m k : List ℕ) (i s r : ℕ) → r ≡ bit_and (get_or m i 0) (get_or k i 0) * get_or weights i 0 % 65536 → s ≡ sum_below (products (masked m k)) i % 65536
    → (s + r) % 65536 ≡ sum_below (products (masked m k)) (i + 1) % 65536
sum_step m k i s r p e =
    let f = products (masked m k) in
    ap (λ x. (s + x) % 65536) (p ∙ ap (λ x. x * get_or weights i 0 % 65536) (sym (masked_at m k i)))
    ∙ wrapped s (sum_below f i) (f i) e
    ∙ sym (ap (λ x. x % 65536) (sum_more f i))

-- the bits below 2^16 are enough
pub sum_bits : (s t : ℕ) → s ≡ t % 65536 → s / 256 % 128 ≡ t / 256 % 128
sum_bits s t e = omega (arith, e)
