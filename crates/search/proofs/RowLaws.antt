-- Two pairs of rows that are compared at once, by the bits that are gathered from all bytes.
use Rattle.std.proofs.Common.{◌≡◌, ℕ, true, ◌&&◌, eqb, List, [], ◌∷◌, length, zip, sym, refl, ap₂, ◌∙◌, arith}
use lib.Bits.{bit_and, bit_or, bit_xor}
use Rattle.std.specs.List.{AllByRecursion, fold}
use Rattle.std.specs.Str.{bytes_eq}
use Rattle.std.proofs.lemmas.Slice.Eq.{bytes_eq-Decides}
use Rattle.std.proofs.lemmas.Bool.{eq-eqb, eqb-true, and_parts, and_from}
use Rattle.std.proofs.lemmas.Bool.Decides.{same_from_decides}
use Rattle.flow.specs.Masks.{masked, covered}
use Rattle.flow.proofs.BitLaws.{or_none, same_from_xor, xor_same}
use Rattle.flow.proofs.MaskLaws.{covered_decides}
use Rattle.flow.proofs.Places.{gathers_none, gathers_zero}

-- the bits in which a row's byte of the mask and of the value differ from a mask's and a key's
abbrev pub apart : ((ℕ × ℕ) × ℕ) × ℕ → ℕ
apart p = bit_or (bit_xor p.0.0.0 p.0.1) (bit_xor (bit_and p.0.1 p.1) p.0.0.1)

-- the row has the mask, and its value covers the key
abbrev Both : (own value mask key : List ℕ) → Type 0
Both own value mask key = (own ≡ mask) × (masked mask key ≡ value)

alike : (o v m k : List ℕ) → length o ≡ length v → length v ≡ length m → length m ≡ length k → AllByRecursion (λ p. apart p ≡ 0) (zip (zip (zip o v) m) k) → Both o v m k
unfolding masked
alike [] [] [] [] a b c h = (refl, refl)
alike [] [] [] (w ∷ k) a b c h = absurd (omega arith)
alike [] [] (z ∷ m) k a b c h = absurd (omega arith)
alike [] (y ∷ v) m k a b c h = absurd (omega arith)
alike (x ∷ o) [] m k a b c h = absurd (omega arith)
alike (x ∷ o) (y ∷ v) [] k a b c h = absurd (omega arith)
alike (x ∷ o) (y ∷ v) (z ∷ m) [] a b c h = absurd (omega arith)
alike (x ∷ o) (y ∷ v) (z ∷ m) (w ∷ k) a b c h =
    let p = or_none (bit_xor x z) (bit_xor (bit_and z w) y) h.0 in
    let r = alike o v m k (omega arith) (omega arith) (omega arith) h.1 in
    (ap₂ ◌∷◌ (same_from_xor x z p.0) r.0, ap₂ ◌∷◌ (same_from_xor (bit_and z w) y p.1) r.1)

none_apart : (o v m k : List ℕ) → Both o v m k → AllByRecursion (λ p. apart p ≡ 0) (zip (zip (zip o v) m) k)
unfolding masked
none_apart [] v m k b = tt
none_apart (x ∷ o) [] m k b = tt
none_apart (x ∷ o) (y ∷ v) [] k b = tt
none_apart (x ∷ o) (y ∷ v) (z ∷ m) [] b = tt
none_apart (x ∷ o) (y ∷ v) (z ∷ m) (w ∷ k) b =
    let one : (x ∷ o) ≡ (z ∷ m) = b.0 in
    let two : (bit_and z w ∷ masked m k) ≡ (y ∷ v) = b.1 in
    let e : x ≡ z = cc in
    let f : o ≡ m = cc in
    let g : bit_and z w ≡ y = cc in
    let h : masked m k ≡ v = cc in
    (ap₂ bit_or (xor_same x z e) (xor_same (bit_and z w) y g), none_apart o v m k (f, h))

pub compared : (own value mask key : List ℕ) (d : ℕ) → length own ≡ length value → length value ≡ length mask → length mask ≡ length key
    → d ≡ fold (λ e p. bit_or e (apart p)) 0 (zip (zip (zip own value) mask) key) → eqb d 0 ≡ (bytes_eq own mask && covered mask value key)
compared own value mask key d a b c e =
    same_from_decides (eqb d 0) (bytes_eq own mask && covered mask value key) (there, back) (parts, whole)
  where
    there : eqb d 0 ≡ true → Both own value mask key
    there t = alike own value mask key a b c (gathers_none apart 0 (zip (zip (zip own value) mask) key) (sym e ∙ eqb-true d 0 t)).1

    back : Both own value mask key → eqb d 0 ≡ true
    back p = eq-eqb d 0 (e ∙ gathers_zero apart 0 (zip (zip (zip own value) mask) key) refl (none_apart own value mask key p))

    parts : (bytes_eq own mask && covered mask value key) ≡ true → Both own value mask key
    parts t =
        let p = and_parts (bytes_eq own mask) (covered mask value key) t in
        ((bytes_eq-Decides own mask).0 p.0, (covered_decides mask value key).0 p.1)

    whole : Both own value mask key → (bytes_eq own mask && covered mask value key) ≡ true
    whole p = and_from (bytes_eq own mask) (covered mask value key) ((bytes_eq-Decides own mask).1 p.0) ((covered_decides mask value key).1 p.1)
