use Rattle.std.proofs.Common.{◌≡◌, ℕ, ◌^◌, ◌<◌, ◌≤◌, cond, eqb, false, List, [], ◌∷◌, get_or, drop, None, Ok, Err, Result, sym, ap, ◌∙◌, subst, arith, lit<}
use Rattle.std.proofs.lemmas.Bool.{eqb-true}
use Rattle.std.specs.Result.{OkIff, result_ok}
use Rattle.std.specs.Str.Parse.{IsNumeral, digits_value, without_leading_plus}
use Rattle.std.specs.Char.{digit_value}
use Rattle.numeral.specs.Numbers.{Reads}
use Rattle.numeral.specs.Written.{read_is}
use Rattle.numeral.proofs.number.digits.Goals as goal

-- a plus is no digit
no_plus : (radix : ℕ) (t : List ℕ) → radix ≤ 36 → get_or t 0 0 ≡ 43 → IsNumeral radix t → ⊥
no_plus radix [] h e d = omega (arith, d.0)
no_plus radix (c ∷ cs) h e d = let k : digit_value c ≡ 36 = ap digit_value e in omega (arith, d.1.0, k)

-- without a plus the whole text is read
plain : (t : List ℕ) → eqb (get_or t 0 0) 43 ≡ false → without_leading_plus t ≡ t
plain t h = ap (λ b. drop (cond b 1 0) t) h

at_text : {E : Type 0} (k radix : ℕ) (t u : List ℕ) (r : Result ℕ E) → u ≡ t → OkIff r (IsNumeral radix u × (digits_value radix u < 2 ^ k)) (digits_value radix u) → Reads k radix t (result_ok r)
at_text k radix t u (Ok x) e h = subst (λ z. (IsNumeral radix z × (digits_value radix z < 2 ^ k)) × (x ≡ digits_value radix z)) e h
at_text k radix t u (Err d) e h = subst (λ z. IsNumeral radix z × (digits_value radix z < 2 ^ k) → ⊥) e h

pub returns-then-starts_with : goal.returns-then-starts_with
returns-then-starts_with c =
    let plus = sym (c.starts_with.ensures.byte (lit< tt) (lit< tt) (λ w o h. h)) ∙ c.if-starts_with.true in
    let p : Reads 64 c.args.radix c.args.text.now None = λ h. no_plus c.args.radix c.args.text.now c.requires.1 (eqb-true (get_or c.args.text.now 0 0) 43 plus) h.0 in
    record { reads = p; value = read_is c.args.radix c.args.text.now None p }

pub returns : goal.returns
returns c =
    let none = sym (c.starts_with.ensures.byte (lit< tt) (lit< tt) (λ w o h. h)) ∙ c.if-starts_with.false in
    let p : Reads 64 c.args.radix c.args.text.now c.ok.result = subst (Reads 64 c.args.radix c.args.text.now) (sym c.ok.ensures.value)
    (at_text 64 c.args.radix c.args.text.now (without_leading_plus c.args.text.now) c.from_str_radix.result (plain c.args.text.now none) c.from_str_radix.ensures.value) in
    record { reads = p; value = read_is c.args.radix c.args.text.now c.ok.result p }
