-- The types of 8, 16, 32 and 64 bits.
use Rattle.std.proofs.Common.{◌≡◌, ℕ, ◌^◌, ◌<◌, ◌≤◌, Bool, true, false, cond, ltb, List, Some, None, Ok, Err, Decides, Option, Result, MatchOption, refl, sym, ap, subst, arith, ◌∙◌}
use Rattle.std.specs.Option.{SomeIff}
use Rattle.std.specs.Result.{OkIff, result_ok}
use Rattle.std.specs.Str.Parse.{IsNumeral, digits_value}
use Rattle.std.proofs.Math.Pow.{pow_mono}
use Rattle.std.proofs.lemmas.Bool.{lt-ltb, le-ltb}
use Rattle.std.proofs.lemmas.Bool.Decides.{Decides-ltb}
use Rattle.numeral.specs.Numbers.{Reads, Writes, after_0x, read_number, number_by, of_bits}
use Rattle.numeral.specs.Widths.{IsWidth}
use Rattle.numeral.specs.Written.{reads_number}

-- a number that is read with 64 bits, where it has k
cut : (k : ℕ) (P : Type 0) (v : ℕ) (o : Option ℕ) → k ≤ 64 → SomeIff o (P × (v < 2 ^ 64)) v → SomeIff (of_bits k o) (P × (v < 2 ^ k)) v
cut k P v None l h = λ p. h (p.0, omega (arith, p.1, pow_mono l))
cut k P v (Some n) l h = held (ltb n (2 ^ k)) (Decides-ltb n (2 ^ k))
  where
    held : (b : Bool) → Decides b (n < 2 ^ k) → SomeIff (cond b (Some n) None) (P × (v < 2 ^ k)) v
    held true d = ((h.0.0, subst (λ z. z < 2 ^ k) h.1 (d.0 refl)), h.1)
    held false d = λ p. subst (λ b. cond b ⊥ (Unit {0})) (d.1 (subst (λ z. z < 2 ^ k) (sym h.1) p.1)) tt

by_prefix : (k : ℕ) (w : List ℕ) (s : Option (List ℕ)) → k ≤ 64 → MatchOption s (Reads k 10 w (of_bits k (number_by w s))) (λ t. Reads k 16 t (of_bits k (number_by w s)))
by_prefix k w None l = cut k (IsNumeral 10 w) (digits_value 10 w) (read_number 10 w) l (reads_number 10 w)
by_prefix k w (Some t) l = cut k (IsNumeral 16 t) (digits_value 16 t) (read_number 16 t) l (reads_number 16 t)

whole_by_prefix : (w : List ℕ) (s : Option (List ℕ)) → MatchOption s (Reads 64 10 w (number_by w s)) (λ t. Reads 64 16 t (number_by w s))
whole_by_prefix w None = reads_number 10 w
whole_by_prefix w (Some t) = reads_number 16 t

narrowed : {E : Type 0} (k n : ℕ) (r : Result ℕ E) → OkIff r (n < 2 ^ k) n → result_ok r ≡ of_bits k (Some n)
narrowed k n (Ok x) h = ap Some h.1 ∙ ap (λ b. cond b (Some n) None) (sym (lt-ltb n (2 ^ k) h.0))
narrowed k n (Err e) h = ap (λ b. cond b (Some n) None) (sym (le-ltb n (2 ^ k) (omega (arith, h))))

whole : {E : Type 0} (n : ℕ) (r : Result ℕ E) → n < 2 ^ 64 → OkIff r (n < 2 ^ 64) n → result_ok r ≡ Some n
whole n (Ok x) l h = ap Some h.1
whole n (Err e) l h = absurd (h l)

-- a type of k bits
pub narrow : {E : Type 0} (k : ℕ) → k ≤ 64 → IsWidth {E = E} (λ n r. OkIff r (n < 2 ^ k) n) (of_bits k) (Writes k)
narrow k l = record { made = λ n r h g. narrowed k n r g; none = refl; written = λ w. by_prefix k w (after_0x w) l }

-- the widest
pub widest : {E : Type 0} → IsWidth {E = E} (λ n r. OkIff r (n < 2 ^ 64) n) (λ o. o) (Writes 64)
widest = record { made = whole; none = refl; written = λ w. whole_by_prefix w (after_0x w) }
