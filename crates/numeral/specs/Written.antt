-- What a word writes is one number.
use Rattle.std.proofs.Common.{◌≡◌, ℕ, ◌^◌, ◌<◌, Bool, true, false, cond, ◌&&◌, ltb, List, [], ◌∷◌, length, Some, None, Decides, Option, refl, ap, subst}
use Rattle.std.specs.Option.{SomeIff}
use Rattle.std.specs.Str.Parse.{AllDigits, IsNumeral, digits_value}
use Rattle.std.specs.Char.{digit_value}
use Rattle.std.proofs.lemmas.Bool.Decides.{Decides-and, Decides-ltb}
use Rattle.numeral.specs.Numbers.{Reads, all_digits, read_number}

digits_decided : (radix : ℕ) (t : List ℕ) → Decides (all_digits radix t) (AllDigits radix t)
digits_decided radix [] = (λ e. tt, λ d. refl)
digits_decided radix (c ∷ cs) =
    Decides-and (ltb (digit_value c) radix) (all_digits radix cs) (Decides-ltb (digit_value c) radix) (digits_decided radix cs)

number_decided : (radix : ℕ) (t : List ℕ) → Decides ((ltb 0 (length t) && all_digits radix t) && ltb (digits_value radix t) (2 ^ 64)) (IsNumeral radix t × (digits_value radix t < 2 ^ 64))
number_decided radix t =
    Decides-and (ltb 0 (length t) && all_digits radix t) (ltb (digits_value radix t) (2 ^ 64))
    (Decides-and (ltb 0 (length t)) (all_digits radix t) (Decides-ltb 0 (length t)) (digits_decided radix t))
    (Decides-ltb (digits_value radix t) (2 ^ 64))

-- a value where a test holds that decides the condition
checked_by : {P : Type 0} (b : Bool) (r : Option ℕ) (v : ℕ) → Decides b P → SomeIff r P v → r ≡ cond b (Some v) None
checked_by true None v d h = absurd (h (d.0 refl))
checked_by true (Some x) v d h = ap Some h.1
checked_by false None v d h = refl
checked_by false (Some x) v d h = absurd (subst (λ b. cond b ⊥ (Unit {0})) (d.1 h.0) tt)

decided_by : {P : Type 0} (b : Bool) (v : ℕ) → Decides b P → SomeIff (cond b (Some v) None) P v
decided_by true v d = (d.0 refl, refl)
decided_by false v d = λ h. subst (λ b. cond b ⊥ (Unit {0})) (d.1 h) tt

pub read_is : (radix : ℕ) (t : List ℕ) (r : Option ℕ) → Reads 64 radix t r → r ≡ read_number radix t
unfolding read_number
read_is radix t r h =
    checked_by ((ltb 0 (length t) && all_digits radix t) && ltb (digits_value radix t) (2 ^ 64)) r (digits_value radix t) (number_decided radix t) h

pub reads_number : (radix : ℕ) (t : List ℕ) → Reads 64 radix t (read_number radix t)
unfolding read_number
reads_number radix t =
    decided_by ((ltb 0 (length t) && all_digits radix t) && ltb (digits_value radix t) (2 ^ 64)) (digits_value radix t) (number_decided radix t)
