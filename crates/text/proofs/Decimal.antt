-- The decimal text of a number, digit by digit.
use Rattle.std.proofs.Common.{◌≡◌, ℕ, ◌+◌, ◌/◌, ◌%◌, ◌^◌, ◌<◌, ◌≤◌, [], ◌∷◌, ◌++◌, length, ap, ◌∙◌, length-append}
use Rattle.std.proofs.lemmas.Fmt.{decimal_digit, decimal_step, length-decimal-le}
use Rattle.text.specs.Texts.{decimal_text}

pub text_digit : (n : ℕ) → n < 10 → decimal_text n ≡ (48 + n) ∷ []
unfolding decimal_text
text_digit n h = decimal_digit n h

pub text_step : (n : ℕ) → 10 ≤ n → n < 2 ^ 64 → decimal_text n ≡ decimal_text (n / 10) ++ ((48 + n % 10) ∷ [])
unfolding decimal_text
text_step n h f = decimal_step n h f

pub length_digit : (n : ℕ) → n < 10 → length (decimal_text n) ≡ 1
length_digit n h = ap length (text_digit n h)

pub length_step : (n : ℕ) → 10 ≤ n → n < 2 ^ 64 → length (decimal_text n) ≡ length (decimal_text (n / 10)) + 1
length_step n h f = ap length (text_step n h f) ∙ length-append (decimal_text (n / 10)) ((48 + n % 10) ∷ [])

pub length_text : (k n : ℕ) → 0 < k → n < 10 ^ k → n < 2 ^ 64 → length (decimal_text n) ≤ k
unfolding decimal_text
length_text k n p h f = length-decimal-le k n p h f
