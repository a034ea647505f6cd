-- Laws of AND and OR that lib.Bits lacks.
use Rattle.std.proofs.Common.{◌≡◌, ℕ, zero, suc, ◌+◌, ◌*◌, ◌/◌, ◌%◌, ◌<◌, sym, refl, ap, ◌∙◌, ap₂, div-add-mod', arith}
use lib.Arith.{bin_ind}
use lib.Bits.{bit_and, bit_or, and_shr, or_shr, and_mod, or_mod, and_comm, and_self, bit_xor, or_add_and, and_le_l, and_le_r, xor_zero_l, xor_zero_r, xor_self, xor_assoc}

-- what holds of the two digits
digit : (P : ℕ → Type 0) → P 0 → P 1 → (x : ℕ) → x < 2 → P x
digit P p q zero h = p
digit P p q (suc zero) h = q
digit P p q (suc (suc x)) h = absurd (omega arith)

low : (x : ℕ) → x % 2 < 2
low x = omega arith

-- two expressions over three numbers that work digit by digit are equal where they are equal at digits
module _ (F G : ℕ → ℕ → ℕ → ℕ)
    (none : (b c : ℕ) → F 0 b c ≡ G 0 b c)
    (highF : (a b c : ℕ) → F a b c / 2 ≡ F (a / 2) (b / 2) (c / 2)) (highG : (a b c : ℕ) → G a b c / 2 ≡ G (a / 2) (b / 2) (c / 2))
    (lowF : (a b c : ℕ) → F a b c % 2 ≡ F (a % 2) (b % 2) (c % 2)) (lowG : (a b c : ℕ) → G a b c % 2 ≡ G (a % 2) (b % 2) (c % 2))
    (digits : (x y z : ℕ) → x < 2 → y < 2 → z < 2 → F x y z ≡ G x y z) where
  by_digits : (a b c : ℕ) → F a b c ≡ G a b c
  by_digits =
      bin_ind (λ n. (b c : ℕ) → F n b c ≡ G n b c) none
      (λ n ih b c.
      sym (div-add-mod' (F n b c) 2)
      ∙ ap₂ (λ h l. h * 2 + l)
      (highF n b c ∙ ih (b / 2) (c / 2) ∙ sym (highG n b c))
      (lowF n b c ∙ digits (n % 2) (b % 2) (c % 2) (low n) (low b) (low c) ∙ sym (lowG n b c))
      ∙ div-add-mod' (G n b c) 2)

pub and_assoc : (a b c : ℕ) → bit_and (bit_and a b) c ≡ bit_and a (bit_and b c)
and_assoc =
    by_digits (λ a b c. bit_and (bit_and a b) c) (λ a b c. bit_and a (bit_and b c)) (λ b c. refl)
    (λ a b c. and_shr (bit_and a b) c 1 ∙ ap (λ x. bit_and x (c / 2)) (and_shr a b 1))
    (λ a b c. and_shr a (bit_and b c) 1 ∙ ap (bit_and (a / 2)) (and_shr b c 1))
    (λ a b c. and_mod (bit_and a b) c 1 ∙ ap (λ x. bit_and x (c % 2)) (and_mod a b 1))
    (λ a b c. and_mod a (bit_and b c) 1 ∙ ap (bit_and (a % 2)) (and_mod b c 1))
    (λ x y z hx hy hz.
    digit (λ x. bit_and (bit_and x y) z ≡ bit_and x (bit_and y z)) refl
    (digit (λ y. bit_and (bit_and 1 y) z ≡ bit_and 1 (bit_and y z)) refl
    (digit (λ z. bit_and (bit_and 1 1) z ≡ bit_and 1 (bit_and 1 z)) refl refl z hz) y hy) x hx)

pub and_or : (a b c : ℕ) → bit_and (bit_or a b) c ≡ bit_or (bit_and a c) (bit_and b c)
and_or =
    by_digits (λ a b c. bit_and (bit_or a b) c) (λ a b c. bit_or (bit_and a c) (bit_and b c)) (λ b c. refl)
    (λ a b c. and_shr (bit_or a b) c 1 ∙ ap (λ x. bit_and x (c / 2)) (or_shr a b 1))
    (λ a b c. or_shr (bit_and a c) (bit_and b c) 1 ∙ ap₂ bit_or (and_shr a c 1) (and_shr b c 1))
    (λ a b c. and_mod (bit_or a b) c 1 ∙ ap (λ x. bit_and x (c % 2)) (or_mod a b 1))
    (λ a b c. or_mod (bit_and a c) (bit_and b c) 1 ∙ ap₂ bit_or (and_mod a c 1) (and_mod b c 1))
    (λ x y z hx hy hz.
    digit (λ x. bit_and (bit_or x y) z ≡ bit_or (bit_and x z) (bit_and y z)) refl
    (digit (λ y. bit_and (bit_or 1 y) z ≡ bit_or (bit_and 1 z) (bit_and y z))
    (digit (λ z. bit_and 1 z ≡ bit_or (bit_and 1 z) 0) refl refl z hz)
    (digit (λ z. bit_and 1 z ≡ bit_or (bit_and 1 z) (bit_and 1 z)) refl refl z hz) y hy) x hx)

pub or_and_absorb : (a b : ℕ) → bit_or a (bit_and a b) ≡ a
or_and_absorb a b =
    by_digits (λ a b c. bit_or a (bit_and a b)) (λ a b c. a) (λ b c. refl)
    (λ a b c. or_shr a (bit_and a b) 1 ∙ ap (bit_or (a / 2)) (and_shr a b 1)) (λ a b c. refl)
    (λ a b c. or_mod a (bit_and a b) 1 ∙ ap (bit_or (a % 2)) (and_mod a b 1)) (λ a b c. refl)
    (λ x y z hx hy hz.
    digit (λ x. bit_or x (bit_and x y) ≡ x) refl (digit (λ y. bit_or 1 (bit_and 1 y) ≡ 1) refl refl y hy) x hx)
    a b 0

pub or_assoc : (a b c : ℕ) → bit_or (bit_or a b) c ≡ bit_or a (bit_or b c)
or_assoc =
    by_digits (λ a b c. bit_or (bit_or a b) c) (λ a b c. bit_or a (bit_or b c)) (λ b c. refl)
    (λ a b c. or_shr (bit_or a b) c 1 ∙ ap (λ x. bit_or x (c / 2)) (or_shr a b 1))
    (λ a b c. or_shr a (bit_or b c) 1 ∙ ap (bit_or (a / 2)) (or_shr b c 1))
    (λ a b c. or_mod (bit_or a b) c 1 ∙ ap (λ x. bit_or x (c % 2)) (or_mod a b 1))
    (λ a b c. or_mod a (bit_or b c) 1 ∙ ap (bit_or (a % 2)) (or_mod b c 1))
    (λ x y z hx hy hz.
    digit (λ x. bit_or (bit_or x y) z ≡ bit_or x (bit_or y z)) refl
    (digit (λ y. bit_or (bit_or 1 y) z ≡ bit_or 1 (bit_or y z)) refl
    (digit (λ z. bit_or (bit_or 1 1) z ≡ bit_or 1 (bit_or 1 z)) refl refl z hz) y hy) x hx)

-- the bits of a are among those of a and b
pub or_and_self : (a b : ℕ) → bit_and (bit_or a b) a ≡ a
or_and_self a b = and_or a b a ∙ ap₂ bit_or (and_self a) (and_comm b a) ∙ or_and_absorb a b

pub or_none : (a b : ℕ) → bit_or a b ≡ 0 → (a ≡ 0) × (b ≡ 0)
or_none a b e =
    let s = or_add_and a b in
    let l = and_le_l a b in
    let r = and_le_r a b in
    (omega arith, omega arith)

pub same_from_xor : (a b : ℕ) → bit_xor a b ≡ 0 → a ≡ b
same_from_xor a b e =
    sym (xor_zero_r a) ∙ ap (bit_xor a) (sym (xor_self b)) ∙ sym (xor_assoc a b b) ∙ ap (λ x. bit_xor x b) e ∙ xor_zero_l b

pub xor_same : (a b : ℕ) → a ≡ b → bit_xor a b ≡ 0
xor_same a b e = ap (λ x. bit_xor x b) e ∙ xor_self b
