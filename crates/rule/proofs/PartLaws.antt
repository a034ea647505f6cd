-- Cutting a text at a byte, and its parts.
use Rattle.std.proofs.Common.{◌≡◌, ℕ, suc, ◌<◌, cond, List, [], ◌∷◌, ◌++◌, length, get_or, Some, None, Option, sym, refl, ap, ◌∙◌, arith, Bor}
use Rattle.std.proofs.lemmas.Str.Pattern.{IsSplitOnceResult, split_parts}
use Rattle.std.proofs.lemmas.Bool.{eq-eqb, ne_eqb}
use Rattle.rule.specs.Parts.{longer, cut_at, bytes_of}

no_cut : (c : ℕ) (t : List ℕ) → ((i : ℕ) → i < length t → get_or t i 0 ≡ c → ⊥) → cut_at c t ≡ None
unfolding cut_at
no_cut c [] h = refl
no_cut c (x ∷ xs) h =
    ap (λ b. cond b (Some ([], xs)) (longer x (cut_at c xs))) (ne_eqb x c (h 0 (omega arith)))
    ∙ ap (longer x) (no_cut c xs (λ i l. h (suc i) (omega arith)))

first_cut : (c : ℕ) (l r : List ℕ) → ((i : ℕ) → i < length l → get_or l i 0 ≡ c → ⊥) → cut_at c (l ++ (c ∷ r)) ≡ Some (l, r)
unfolding cut_at
first_cut c [] r h = ap (λ b. cond b (Some ([], r)) (longer c (cut_at c r))) (eq-eqb c c refl)
first_cut c (x ∷ xs) r h =
    ap (λ b. cond b (Some ([], xs ++ (c ∷ r))) (longer x (cut_at c (xs ++ (c ∷ r))))) (ne_eqb x c (h 0 (omega arith)))
    ∙ ap (longer x) (first_cut c xs r (λ i l. h (suc i) (omega arith)))

-- what `split_once` gives
pub cut_is : (c : ℕ) (t : List ℕ) (r : Option (Bor (List ℕ) × Bor (List ℕ))) → IsSplitOnceResult c t r → c < 128 → bytes_of r ≡ cut_at c t
cut_is c t None h l = sym (no_cut c t (split_parts c t None h l))
cut_is c t (Some x) h l =
    let p = split_parts c t (Some x) h l in
    sym (ap (cut_at c) p.0 ∙ first_cut c x.0.now x.1.now p.1)
