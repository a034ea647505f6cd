-- The key's bytes, as the code lays them out: rows written one behind the other.
use Rattle.std.proofs.Common.{◌≡◌, ℕ, ◌+◌, List, [], ◌++◌, length, take, drop, sym, refl, ap, ◌∙◌, ap₂, arith, append_assoc, length-append, length-drop}
use Rattle.std.proofs.Math.Seq.{drop-append-add}
use Rattle.std.proofs.lemmas.List.{take_at, take-take, drop-take, drop-drop, drop_all, take-append-drop, append-nil}
use Rattle.packet.specs.Frames.{part}
use Rattle.packet.specs.Layout.{put_at}

-- a row, written behind another
row_laid : (at : ℕ) (x y z : List ℕ) → length x ≡ at → put_at at y (x ++ z) ≡ (x ++ y) ++ drop (length y) z
row_laid at x y z h =
    ap₂ (λ a b. a ++ (y ++ b)) (take_at x z at h) (ap (λ k. drop (k + length y) (x ++ z)) (sym h) ∙ drop-append-add x z (length y))
    ∙ sym (append_assoc x y (drop (length y) z))

-- the last one
last_laid : (at : ℕ) (x y z : List ℕ) → length x ≡ at → length z ≡ length y → put_at at y (x ++ z) ≡ x ++ y
last_laid at x y z h e = row_laid at x y z h ∙ ap (λ r. (x ++ y) ++ r) (drop_all (length y) z (omega arith)) ∙ append-nil (x ++ y)

-- two halves
pub halves_laid : (x y z : List ℕ) → length x ≡ 18 → length y ≡ 18 → length z ≡ 36 → put_at 18 y (put_at 0 x z) ≡ x ++ y
halves_laid x y z hx hy hz =
    ap (put_at 18 y) (row_laid 0 [] x z refl) ∙ last_laid 18 x y (drop (length x) z) hx (omega (arith, length-drop (length x) z))

-- four rows of the last half
pub rows_laid : (h f a s z : List ℕ) → length h ≡ 4 → length f ≡ 2 → length a ≡ 8 → length s ≡ 4 → length z ≡ 18 → put_at 14 s (put_at 6 a (put_at 4 f (put_at 0 h z))) ≡ h ++ (f ++ (a ++ s))
rows_laid h f a s z hh hf ha hs hz =
    let z1 = drop (length h) z in
    let z2 = drop (length f) z1 in
    let z3 = drop (length a) z2 in
    ap (λ o. put_at 14 s (put_at 6 a (put_at 4 f o))) (row_laid 0 [] h z refl)
    ∙ ap (λ o. put_at 14 s (put_at 6 a o)) (row_laid 4 h f z1 hh)
    ∙ ap (put_at 14 s) (row_laid 6 (h ++ f) a z2 (omega (arith, length-append h f)))
    ∙ last_laid 14 ((h ++ f) ++ a) s z3 (omega (arith, length-append h f, length-append (h ++ f) a)) (omega (arith, length-drop (length h) z, length-drop (length f) z1, length-drop (length a) z2))
    ∙ append_assoc (h ++ f) a s ∙ append_assoc h f (a ++ s)

-- five rows of the first half
pub link_rows_laid : (p d s t v z : List ℕ) → length p ≡ 2 → length d ≡ 6 → length s ≡ 6 → length t ≡ 2 → length v ≡ 2 → length z ≡ 18 → put_at 16 v (put_at 14 t (put_at 8 s (put_at 2 d (put_at 0 p z)))) ≡ p ++ (d ++ (s ++ (t ++ (v ++ []))))
link_rows_laid p d s t v z hp hd hs ht hv hz =
    let z1 = drop (length p) z in
    let z2 = drop (length d) z1 in
    let z3 = drop (length s) z2 in
    let z4 = drop (length t) z3 in
    ap (λ o. put_at 16 v (put_at 14 t (put_at 8 s (put_at 2 d o)))) (row_laid 0 [] p z refl)
    ∙ ap (λ o. put_at 16 v (put_at 14 t (put_at 8 s o))) (row_laid 2 p d z1 hp)
    ∙ ap (λ o. put_at 16 v (put_at 14 t o)) (row_laid 8 (p ++ d) s z2 (omega (arith, length-append p d)))
    ∙ ap (put_at 16 v) (row_laid 14 ((p ++ d) ++ s) t z3 (omega (arith, length-append p d, length-append (p ++ d) s)))
    ∙ last_laid 16 (((p ++ d) ++ s) ++ t) v z4 (omega (arith, length-append p d, length-append (p ++ d) s, length-append ((p ++ d) ++ s) t))
    (omega (arith, length-drop (length p) z, length-drop (length d) z1, length-drop (length s) z2, length-drop (length t) z3))
    ∙ append_assoc ((p ++ d) ++ s) t v ∙ append_assoc (p ++ d) s (t ++ v) ∙ append_assoc p d (s ++ (t ++ v))
    ∙ ap (λ r. p ++ (d ++ (s ++ (t ++ r)))) (sym (append-nil v))

-- the two addresses are one part
pub addresses : (n : List ℕ) → part n 12 8 ≡ part n 12 4 ++ part n 16 4
addresses n =
    let x = drop 12 n in
    sym (take-append-drop 4 (take 8 x)) ∙ ap₂ (λ a b. a ++ b) (take-take 4 8 x (omega arith)) (drop-take 4 4 x ∙ ap (take 4) (drop-drop 4 12 n))
