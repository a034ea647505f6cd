-- The pairs of a text's characters.
use Rattle.std.proofs.Common.{◌≡◌, ℕ, zero, suc, ◌+◌, ◌*◌, ◌/◌, ◌<◌, List, [], ◌∷◌, length, get_or, take, drop, refl, ap, ◌∙◌, arith}
use Rattle.std.specs.Simd.{first_chunks}
use Rattle.std.proofs.lemmas.List.{drop_more, drop-drop}

-- the text from pair i on
pub pair_then : (t : List ℕ) (i : ℕ) → 2 * i + 1 < length t → drop (2 * i) t ≡ get_or t (2 * i) 0 ∷ get_or t (2 * i + 1) 0 ∷ drop (2 * (i + 1)) t
pair_then t i l =
    let s : (2 * i + 1) + 1 ≡ 2 * (i + 1) = omega arith in
    drop_more t (2 * i) 0 (omega arith)
    ∙ ap (λ z. get_or t (2 * i) 0 ∷ z) (drop_more t (2 * i + 1) 0 l ∙ ap (λ n. get_or t (2 * i + 1) 0 ∷ drop n t) s)

chunk_in : (k i : ℕ) (t : List ℕ) → i < k → get_or (first_chunks 2 k t) i [] ≡ take 2 (drop (2 * i) t)
chunk_in zero i t h = absurd (omega arith)
chunk_in (suc k) zero t h = refl
chunk_in (suc k) (suc i) t h =
    let e : 2 + 2 * i ≡ 2 * suc i = omega arith in
    chunk_in k i (drop 2 t) (omega arith) ∙ ap (take 2) (drop-drop (2 * i) 2 t ∙ ap (λ n. drop n t) e)

-- chunk i is pair i
pub chunk_is : (t : List ℕ) (i : ℕ) → i < length t / 2 → get_or (first_chunks 2 (length t / 2) t) i [] ≡ get_or t (2 * i) 0 ∷ get_or t (2 * i + 1) 0 ∷ []
chunk_is t i h = chunk_in (length t / 2) i t h ∙ ap (take 2) (pair_then t i (omega arith))
