-- The ports of a set, from one to the next.
use Rattle.std.proofs.Common.{◌≡◌, ℕ, zero, suc, ◌+◌, ◌-◌, ◌/◌, ◌%◌, ◌^◌, ◌<◌, ◌≤◌, cond, Bool, List, [], ◌++◌, codes, sym, ap, refl, ◌∙◌, subst, append-nil, append_assoc, arith, eq-eqb, ne_eqb, inl, inr, ◌⊎◌}
use Rattle.std.specs.Int.{trailing_zeros, w64}
use native.Mathlib.Nat.{zero-div}
use Rattle.std.proofs.lemmas.Bool.{cases_lt}
use Rattle.std.proofs.lemmas.Nat.{shr-shr, shr_le}
use Rattle.std.proofs.lemmas.Nat.Bits.{bit_at-trailing_zeros}
use Rattle.text.specs.Texts.{Appended, decimal_text}
use Rattle.text.specs.Answers.{none_lower, port_text, ports_below, ports_text}

-- a port that is not in the set has no text
no_port : (set p : ℕ) → set / 2 ^ p % 2 ≡ 0 → port_text set p ≡ []
no_port set p e = ap (λ b. cond b (cond (none_lower set p) [] (codes ",") ++ decimal_text p) []) (ne_eqb (set / 2 ^ p % 2) 1 (omega arith))

-- where no port from n on is in the set, up to n + k, the text stays
skipped : (set n k : ℕ) → ((i : ℕ) → i < k → set / 2 ^ (n + i) % 2 ≡ 0) → ports_below set n ≡ ports_below set (n + k)
unfolding ports_below
skipped set n zero h = let e : n ≡ n + 0 = omega arith in ap (ports_below set) e
skipped set n (suc k) h =
    let e : n + suc k ≡ suc (n + k) = omega arith in
    skipped set n k (λ i l. h i (omega arith))
    ∙ sym (append-nil (ports_below set (n + k)))
    ∙ ap (λ t. ports_below set (n + k) ++ t) (sym (no_port set (n + k) (h k (omega arith))))
    ∙ ap (ports_below set) (sym e)

pub none_below : (set : ℕ) (xs : List ℕ) → Appended xs xs (ports_below set 0)
unfolding ports_below
none_below set xs = record { is = sym (append-nil xs) }

-- the next port of a set that has one from n on
pub record IsNext (set n p : ℕ) : Type 0 where
  pub above : n ≤ p
  pub is_port : p < 64
  pub held : set / 2 ^ p % 2 ≡ 1
  pub same : ports_below set n ≡ ports_below set p

-- a number of 64 bits has no bit past them
within : (set p : ℕ) → set < 2 ^ 64 → set / 2 ^ p % 2 ≡ 1 → p < 64
within set p f h = elim (cases_lt p 64) [
  | inl l ↦ l
  | inr l ↦
      let e : 64 + (p - 64) ≡ p = omega arith in
      let none : set / 2 ^ 64 ≡ 0 = omega arith in
      let is : set / 2 ^ p ≡ 0 = sym (ap (λ i. set / 2 ^ i) e) ∙ sym (shr-shr set 64 (p - 64)) ∙ ap (λ m. m / 2 ^ (p - 64)) none ∙ zero-div (2 ^ (p - 64)) in
      absurd (omega arith)
]

pub next_port : (set n : ℕ) → set < 2 ^ 64 → (set / 2 ^ n ≡ 0 → ⊥) → IsNext set n (n + trailing_zeros w64 (set / 2 ^ n))
next_port set n f some =
    let low = bit_at-trailing_zeros w64 (set / 2 ^ n) (omega arith) (omega (arith, shr_le set n)) in
    let t = trailing_zeros w64 (set / 2 ^ n) in
    let held : set / 2 ^ (n + t) % 2 ≡ 1 = sym (ap (λ m. m % 2) (shr-shr set n t)) ∙ low.1 in
    record {
      above = omega arith;
      is_port = within set (n + t) f held;
      held = held;
      same = skipped set n t (λ i l. sym (ap (λ m. m % 2) (shr-shr set n i)) ∙ low.2 i l);
    }

-- the text up to the next port, with its own behind
pub with_port : (set n p : ℕ) (b : Bool) → IsNext set n p → none_lower set p ≡ b → ports_below set n ++ (cond b [] (codes ",") ++ decimal_text p) ≡ ports_below set (p + 1)
unfolding ports_below
with_port set n p b next e =
    let one_more : suc p ≡ p + 1 = omega arith in
    ap (λ t. t ++ (cond b [] (codes ",") ++ decimal_text p)) next.same
    ∙ ap (λ t. ports_below set p ++ t)
    (sym (ap (λ t. cond t (cond (none_lower set p) [] (codes ",") ++ decimal_text p) []) (eq-eqb (set / 2 ^ p % 2) 1 next.held)
    ∙ ap (λ t. cond t [] (codes ",") ++ decimal_text p) e))
    ∙ ap (ports_below set) one_more

-- a port without a lower one, and one behind a lower one
pub alone : (set p m : ℕ) → m ≡ 2 ^ p → set % m ≡ 0 → decimal_text p ≡ cond (none_lower set p) [] (codes ",") ++ decimal_text p
alone set p m e h = sym (ap (λ b. cond b [] (codes ",") ++ decimal_text p) (eq-eqb (set % 2 ^ p) 0 (subst (λ z. set % z ≡ 0) e h)))

pub behind : (set p m : ℕ) → m ≡ 2 ^ p → (set % m ≡ 0 → ⊥) → codes "," ++ decimal_text p ≡ cond (none_lower set p) [] (codes ",") ++ decimal_text p
behind set p m e n = sym (ap (λ b. cond b [] (codes ",") ++ decimal_text p) (ne_eqb (set % 2 ^ p) 0 (subst (λ z. set % z ≡ 0 → ⊥) e n)))

-- the text up to the first port, and up to a later one, with its own behind
pub first_port : (set n p m : ℕ) → IsNext set n p → m ≡ 2 ^ p → set % m ≡ 0 → ports_below set n ++ decimal_text p ≡ ports_below set (p + 1)
first_port set n p m next e h = ap (λ t. ports_below set n ++ t) (alone set p m e h) ∙ with_port set n p (none_lower set p) next refl

pub later_port : (set n p m : ℕ) → IsNext set n p → m ≡ 2 ^ p → (set % m ≡ 0 → ⊥) → (ports_below set n ++ codes ",") ++ decimal_text p ≡ ports_below set (p + 1)
later_port set n p m next e h = append_assoc (ports_below set n) (codes ",") (decimal_text p) ∙ ap (λ t. ports_below set n ++ t) (behind set p m e h) ∙ with_port set n p (none_lower set p) next refl

-- where no port is left, the text is whole
pub last_port : (set n : ℕ) → n ≤ 64 → (n ≡ 64) ⊎ (set / 2 ^ n ≡ 0) → (set ≡ 0 → ⊥) → ports_below set n ≡ ports_text set
unfolding ports_text
last_port set n l none some =
    elim none [
      | inl e ↦ ap (ports_below set) e
      | inr z ↦
          let e : n + (64 - n) ≡ 64 = omega arith in
          skipped set n (64 - n) (λ i h. ap (λ m. m % 2) (sym (shr-shr set n i) ∙ ap (λ m. m / 2 ^ i) z ∙ zero-div (2 ^ i))) ∙ ap (ports_below set) e
    ]
    ∙ sym (ap (λ b. cond b (codes "none") (ports_below set 64)) (ne_eqb set 0 some))

pub no_ports : (set : ℕ) → set ≡ 0 → codes "none" ≡ ports_text set
unfolding ports_text
no_ports set e = sym (ap (λ b. cond b (codes "none") (ports_below set 64)) (eq-eqb set 0 e))
