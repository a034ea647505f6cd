-- A search over the set bits of a number: the slots in between do not fit.
use Rattle.std.proofs.Common.{◌≡◌, ℕ, ◌+◌, ◌-◌, ◌^◌, ◌<◌, ◌≤◌, Bool, true, false, cond, ◌&&◌, eqb, List, length, get_or, Some, None, Option, sym, refl, ap, ◌∙◌, ap₂, ⊎_elim, arith}
use lib.Bits.{bit_and}
use lib.Count.{count_trailing_zeros}
use Rattle.std.specs.Option.{option_map}
use Rattle.std.specs.Str.{bytes_eq}
use Rattle.std.proofs.lemmas.Slice.Eq.{bytes_eq-Decides}
use Rattle.std.proofs.lemmas.Bool.{and_left, and_parts, cases_lt, eq-eqb, true≢false}
use Rattle.flow.specs.Masks.{masked, covered}
use Rattle.flow.proofs.MaskLaws.{covered_decides, agree_masked}
use Rattle.search.specs.Best.{best, numbered, covering, fitting}
use Rattle.search.specs.Buckets.{bit, home, Indexed}
use Rattle.search.specs.Searches.{later, stepped, marking, Below, seen}
use Rattle.search.specs.declared.tuple.Hit.{Hit}
use Rattle.search.proofs.Digits.{LowestBit, lowest_bit, bit_zero}
use Rattle.search.proofs.BestLaws.{joined, joined_none, rest, rest_to, rest_none, rest_step, best_alike}
use Rattle.search.proofs.IndexLaws.{stands_at, stands_past}

-- what a search has yet to see: the bits of n from j on
abbrev pub Left : ℕ → ℕ → ℕ → Type 0
Left n j left = ((i : ℕ) → i < j → bit left i ≡ false) × ((i : ℕ) → j ≤ i → bit left i ≡ bit n i)

module _ {E : Type 0} (rank : E → ℕ) (fits : E → Bool) (n : ℕ) (slots : List E) (j left : ℕ) (seen : Left n j left) where
  abbrev goes : ℕ → Option (ℕ × E)
  goes i = rest rank (marking n fits) i slots

  -- nothing is left
  pub ended : (t : Option (ℕ × E)) → left ≡ 0 → joined (λ x. rank x.1) t (goes j) ≡ t
  ended t z =
      ap (joined (λ x. rank x.1) t)
      (rest_none rank (marking n fits) slots j
      (λ i d p l. and_left (bit n i) (fits (get_or slots i d)) (sym (seen.1 i p) ∙ ap (λ y. bit y i) z ∙ bit_zero i)))
      ∙ joined_none (λ x. rank x.1) t

  module _ (some : 0 < left) (bound : left < 2 ^ 128) where
    low : LowestBit left (bit_and left (left - 1)) (count_trailing_zeros 128 left) 128
    low = lowest_bit 128 left some bound

    -- the next slot is not among those that were seen
    ahead : j ≤ count_trailing_zeros 128 left
    ahead =
        ⊎_elim (λ (l : count_trailing_zeros 128 left < j). absurd (true≢false (sym low.here ∙ seen.0 (count_trailing_zeros 128 left) l)))
        (λ (l : j ≤ count_trailing_zeros 128 left). l) (cases_lt (count_trailing_zeros 128 left) j)

    marked_next : bit n (count_trailing_zeros 128 left) ≡ true
    marked_next = sym (seen.1 (count_trailing_zeros 128 left) ahead) ∙ low.here

    pub place : Below n (length slots) → count_trailing_zeros 128 left < length slots
    place within =
        ⊎_elim (λ (l : count_trailing_zeros 128 left < length slots). l)
        (λ (l : length slots ≤ count_trailing_zeros 128 left). absurd (true≢false (sym marked_next ∙ within (count_trailing_zeros 128 left) l)))
        (cases_lt (count_trailing_zeros 128 left) (length slots))

    pub onward : Left n (count_trailing_zeros 128 left + 1) (bit_and left (left - 1))
    onward = (
      (λ i h. ⊎_elim (λ (l : i < count_trailing_zeros 128 left). low.others i (λ e. omega arith) ∙ low.below i l)
          (λ (l : count_trailing_zeros 128 left ≤ i). let e : i ≡ count_trailing_zeros 128 left = omega arith in ap (bit (bit_and left (left - 1))) e ∙ low.gone)
          (cases_lt i (count_trailing_zeros 128 left))),
      λ i h. low.others i (λ e. omega arith) ∙ seen.1 i (omega (arith, ahead)),
    )

    -- a step to the next slot
    pub stepping : (t s : Option (ℕ × E)) (e : E) → count_trailing_zeros 128 left < length slots → e ≡ get_or slots (count_trailing_zeros 128 left) e
        → s ≡ stepped (λ x. rank x.1) (λ x. fits x.1) t (count_trailing_zeros 128 left, e)
        → joined (λ x. rank x.1) s (goes (count_trailing_zeros 128 left + 1)) ≡ joined (λ x. rank x.1) t (goes j)
    stepping t s e l r q =
        let i = count_trailing_zeros 128 left in
        let rk : (ℕ × E) → ℕ = λ x. rank x.1 in
        let f : marking n fits (i, e) ≡ fits e = ap (λ y. y && fits e) marked_next in
        rest_step rank (marking n fits) t s slots i e l r (q ∙ sym (ap (λ y. cond y (later rk t (i, e)) t) f))
        ∙ sym (ap (joined rk t) (rest_to rank (marking n fits) slots j i ahead (λ k d p m o. and_left (bit n k) (fits (get_or slots k d)) (sym (seen.1 k p) ∙ low.below k m))))

-- the bits of the key's bucket are those of the slots that may answer and fit, and of others that do not cover the key
module _ {E : Type 0} (hash : List ℕ → ℕ) (may : E → Bool) (masks values : E → List ℕ) (mask key : List ℕ) (slots : List E) (buckets : List ℕ)
    (ix : Indexed may (home hash masks values) slots buckets) where
  -- an element that has the mask and covers the key stands in the key's bucket
  own_bucket : (e : E) → covering masks values mask key e ≡ true → eqb (home hash masks values e) (hash (masked mask key)) ≡ true
  own_bucket e h =
      let p = and_parts (bytes_eq (masks e) mask) (covered mask (values e) key) h in
      let m = (bytes_eq-Decides (masks e) mask).0 p.0 in
      let v = (covered_decides mask (values e) key).0 p.1 in
      eq-eqb (home hash masks values e) (hash (masked mask key)) (ap hash (ap₂ masked m (sym v) ∙ agree_masked mask key))

  chosen : (m q c : Bool) → (c ≡ true → q ≡ true) → ((m && q) && c) ≡ (m && c)
  chosen false q c h = refl
  chosen true true c h = refl
  chosen true false true h = h refl
  chosen true false false h = refl

  fits_marked : (i : ℕ) (d : E) → i < length slots → marking (get_or buckets (hash (masked mask key)) 0) (covering masks values mask key) (i, get_or slots i d) ≡ fitting may masks values mask key (get_or slots i d)
  fits_marked i d l =
      let e = get_or slots i d in
      ap (λ t. t && covering masks values mask key e) (ix (hash (masked mask key)) i ∙ stands_at may (home hash masks values) slots (hash (masked mask key)) i d l)
      ∙ chosen (may e) (eqb (home hash masks values e) (hash (masked mask key))) (covering masks values mask key e) (own_bucket e)

  pub best_indexed : (rank : E → ℕ)
      → best (λ x. rank x.1) (marking (get_or buckets (hash (masked mask key)) 0) (covering masks values mask key)) (numbered 0 slots)
      ≡ best (λ x. rank x.1) (λ x. fitting may masks values mask key x.1) (numbered 0 slots)
  best_indexed rank =
      best_alike rank (marking (get_or buckets (hash (masked mask key)) 0) (covering masks values mask key)) (λ x. fitting may masks values mask key x.1) 0 slots
      (λ i d l.
      let z : 0 + i ≡ i = omega arith in
      ap (λ k. marking (get_or buckets (hash (masked mask key)) 0) (covering masks values mask key) (k, get_or slots i d)) z ∙ fits_marked i d l)

  -- no bit is set where there is no slot
  pub marked_within : (b : ℕ) → Below (get_or buckets b 0) (length slots)
  marked_within b i l = ix b i ∙ stands_past may (home hash masks values) slots b i l

-- a slot that was found, by its element alone
pub seen_element : {E : Type 0} (h : Option (Hit E)) → option_map (λ x. x.element.now) h ≡ option_map (λ x. x.1) (option_map seen h)
seen_element None = refl
seen_element (Some h) = refl
