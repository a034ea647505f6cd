-- The answers of two switches as text.
use Rattle.std.proofs.Common.{◌≡◌, ℕ, ◌+◌, ◌<◌, Bool, true, false, cond, List, [], ◌∷◌, ◌++◌, length, get_or, take, codes, sym, refl, ap, ◌∙◌, append_assoc, append-nil}
use Rattle.std.proofs.lemmas.List.{take_more}
use Rattle.text.specs.Texts.{Appended, hex2, bytes_text}
use Rattle.text.specs.Answers.{Answer, said_text, same_answer, both_text}
use Rattle.text.proofs.Appends.{then, as_text}

pub one_said : (a b : Answer) → same_answer a b ≡ true → said_text a ≡ both_text a b
unfolding both_text
one_said a b e = sym (ap (λ t. cond t (said_text a) (codes "differ A=" ++ said_text a ++ codes " B=" ++ said_text b)) e)

pub both_said : (a b : Answer) → same_answer a b ≡ false → codes "differ A=" ++ said_text a ++ codes " B=" ++ said_text b ≡ both_text a b
unfolding both_text
both_said a b e = sym (ap (λ t. cond t (said_text a) (codes "differ A=" ++ said_text a ++ codes " B=" ++ said_text b)) e)

-- the digits of one list behind another's
bytes_append : (xs ys : List ℕ) → bytes_text (xs ++ ys) ≡ bytes_text xs ++ bytes_text ys
bytes_append [] ys = refl
bytes_append (x ∷ xs) ys = ap (λ z. hex2 x ++ z) (bytes_append xs ys) ∙ sym (append_assoc (hex2 x) (bytes_text xs) (bytes_text ys))

pub no_bytes : (xs ms : List ℕ) → Appended xs xs (bytes_text (take 0 ms))
no_bytes xs ms = record { is = sym (append-nil xs) }

pub one_byte : {xs ys zs : List ℕ} (ms : List ℕ) (i : ℕ) → i < length ms → Appended xs ys (bytes_text (take i ms)) → Appended ys zs (hex2 (get_or ms i 0)) → Appended xs zs (bytes_text (take (i + 1) ms))
one_byte ms i h p q =
    as_text (sym (ap bytes_text (take_more ms i 0 h) ∙ bytes_append (take i ms) (get_or ms i 0 ∷ []))) (then p q)

-- a text that stands only where a test holds
pub shown : {xs ys zs : List ℕ} (b : Bool) (s t : List ℕ) → true ≡ b → Appended xs ys s → Appended ys zs t → Appended xs zs (s ++ cond b t [])
shown b s t e p q = as_text (ap (λ z. s ++ cond z t []) e) (then p q)

pub hidden : {xs ys : List ℕ} (b : Bool) (s t : List ℕ) → false ≡ b → Appended xs ys s → Appended xs ys (s ++ cond b t [])
hidden b s t e p = as_text (sym (append-nil s) ∙ ap (λ z. s ++ cond z t []) e) p
