-- How an index is kept while its slots change: what the owners of slots use.
use Rattle.std.proofs.Common.{◌≡◌, ℕ, zero, suc, ◌<◌, ◌≤◌, Bool, true, false, not, ◌&&◌, ◌||◌, eqb, ltb, List, [], ◌∷◌, ◌++◌, length, get_or, set, replicate, sym, refl, ap, ◌∙◌, ap₂, ⊎_elim, arith}
use Rattle.std.specs.List.{AllByRecursion}
use Rattle.std.proofs.lemmas.Bool.{cases_eq, eq-eqb, ne_eqb, lt-ltb, and_left, and_right}
use Rattle.search.specs.Buckets.{has, stands, bit_of, Indexed, Empty, Marked, Unmarked}

module _ {E : Type 0} (may : E → Bool) (bucket : E → ℕ) where
  pub stands_at : (xs : List E) (b i : ℕ) (d : E) → i < length xs → stands may bucket xs b i ≡ (may (get_or xs i d) && eqb (bucket (get_or xs i d)) b)
  unfolding stands
  stands_at [] b i d l = absurd (omega arith)
  stands_at (x ∷ xs) b zero d l = refl
  stands_at (x ∷ xs) b (suc i) d l = stands_at xs b i d (omega arith)

  pub stands_past : (xs : List E) (b i : ℕ) → length xs ≤ i → stands may bucket xs b i ≡ false
  unfolding stands
  stands_past [] b i l = refl
  stands_past (x ∷ xs) b zero l = absurd (omega arith)
  stands_past (x ∷ xs) b (suc i) l = stands_past xs b i (omega arith)

  stands_set : (xs : List E) (b i : ℕ) (e : E) → i < length xs → stands may bucket (set xs i e) b i ≡ (may e && eqb (bucket e) b)
  unfolding stands
  stands_set [] b i e l = absurd (omega arith)
  stands_set (x ∷ xs) b zero e l = refl
  stands_set (x ∷ xs) b (suc i) e l = stands_set xs b i e (omega arith)

  stands_aside : (xs : List E) (b i k : ℕ) (e : E) → (k ≡ i → ⊥) → stands may bucket (set xs i e) b k ≡ stands may bucket xs b k
  unfolding stands
  stands_aside [] b i k e n = refl
  stands_aside (x ∷ xs) b zero zero e n = absurd (n refl)
  stands_aside (x ∷ xs) b zero (suc k) e n = refl
  stands_aside (x ∷ xs) b (suc i) zero e n = refl
  stands_aside (x ∷ xs) b (suc i) (suc k) e n = stands_aside xs b i k e (λ q. n (ap suc q))

  stands_push : (xs : List E) (b : ℕ) (e : E) → stands may bucket (xs ++ e ∷ []) b (length xs) ≡ (may e && eqb (bucket e) b)
  unfolding stands
  stands_push [] b e = refl
  stands_push (x ∷ xs) b e = stands_push xs b e

  stands_before : (xs : List E) (b k : ℕ) (e : E) → (k ≡ length xs → ⊥) → stands may bucket (xs ++ e ∷ []) b k ≡ stands may bucket xs b k
  unfolding stands
  stands_before [] b zero e n = absurd (n refl)
  stands_before [] b (suc k) e n = refl
  stands_before (x ∷ xs) b zero e n = refl
  stands_before (x ∷ xs) b (suc k) e n = stands_before xs b k e (λ q. n (ap suc q))

  stands_idle : (xs : List E) → AllByRecursion (λ e. may e ≡ false) xs → (b i : ℕ) → stands may bucket xs b i ≡ false
  unfolding stands
  stands_idle [] h b i = refl
  stands_idle (x ∷ xs) h b zero = and_left (may x) (eqb (bucket x) b) h.0
  stands_idle (x ∷ xs) h b (suc i) = stands_idle xs h.1 b i

or_false : (x : Bool) → (x || false) ≡ x
or_false true = refl
or_false false = refl

and_true : (x : Bool) → (x && true) ≡ x
and_true true = refl
and_true false = refl

-- the bit of slot i in bucket b, and the others
own_bit : (b i c : ℕ) → i < 128 → bit_of b i c i ≡ eqb c b
own_bit b i c l = ap₂ (λ x y. x && (eqb c b && y)) (lt-ltb i 128 l) (eq-eqb i i refl) ∙ and_true (eqb c b)

other_bit : (b i c k : ℕ) → (k ≡ i → ⊥) → bit_of b i c k ≡ false
other_bit b i c k n = and_right (ltb i 128) (eqb c b && eqb k i) (and_right (eqb c b) (eqb k i) (ne_eqb k i n))

eqb_swap : (a b : ℕ) → eqb a b ≡ eqb b a
eqb_swap a b = ⊎_elim (λ (q : a ≡ b). eq-eqb a b q ∙ sym (eq-eqb b a (sym q))) (λ (q : a ≡ b → ⊥). ne_eqb a b q ∙ sym (ne_eqb b a (λ r. q (sym r)))) (cases_eq a b)

-- a test and its opposite
and_not : (x y : Bool) → ((x && y) && not y) ≡ false
and_not true true = refl
and_not true false = refl
and_not false y = refl

-- the bits of another slot
marked_aside : (bs cs : List ℕ) (b i c k : ℕ) → (k ≡ i → ⊥) → Marked bs cs b i → has cs c k ≡ has bs c k
marked_aside bs cs b i c k n m = m c k ∙ ap (λ t. has bs c k || t) (other_bit b i c k n) ∙ or_false (has bs c k)

unmarked_aside : (bs cs : List ℕ) (b i c k : ℕ) → (k ≡ i → ⊥) → Unmarked bs cs b i → has cs c k ≡ has bs c k
unmarked_aside bs cs b i c k n m = m c k ∙ ap (λ t. has bs c k && not t) (other_bit b i c k n) ∙ and_true (has bs c k)

-- the bits of the slot itself: of one that had none, and of one that had its own at most
marked_own : (bs cs : List ℕ) (b i c : ℕ) → i < 128 → has bs c i ≡ false → Marked bs cs b i → has cs c i ≡ eqb b c
marked_own bs cs b i c l f m = m c i ∙ ap₂ ◌||◌ f (own_bit b i c l) ∙ eqb_swap c b

unmarked_own : (bs cs : List ℕ) (b i c : ℕ) (x : Bool) → i < 128 → has bs c i ≡ (x && eqb b c) → Unmarked bs cs b i → has cs c i ≡ false
unmarked_own bs cs b i c x l f m =
    m c i ∙ ap₂ (λ s t. s && not t) f (own_bit b i c l ∙ eqb_swap c b) ∙ and_not x (eqb b c)

module _ {E : Type 0} (may : E → Bool) (bucket : E → ℕ) where
  -- slots none of which may answer, and an index with no bit: at first, and after clear
  pub indexed_idle : (slots : List E) (bs : List ℕ) → AllByRecursion (λ e. may e ≡ false) slots → Empty bs → Indexed may bucket slots bs
  indexed_idle slots bs h z b i = z b i ∙ sym (stands_idle may bucket slots h b i)

  pub indexed_free : (n : ℕ) (e : E) (bs : List ℕ) → may e ≡ false → Empty bs → Indexed may bucket (replicate n e) bs
  indexed_free n e bs f z = indexed_idle (replicate n e) bs (alike n)
      z
    where
      alike : (n : ℕ) → AllByRecursion (λ x. may x ≡ false) (replicate n e)
      alike zero = tt
      alike (suc n) = (f, alike n)

  pub indexed_nil : (bs : List ℕ) → Empty bs → Indexed may bucket [] bs
  unfolding stands
  indexed_nil bs z b i = z b i

  -- slot i, which holds x, is to hold e
  module _ (slots : List E) (bs cs : List ℕ) (i : ℕ) (d e : E) (l : i < length slots) (ix : Indexed may bucket slots bs) where
    -- what the index says of it
    at_slot : (b : ℕ) → has bs b i ≡ (may (get_or slots i d) && eqb (bucket (get_or slots i d)) b)
    at_slot b = ix b i ∙ stands_at may bucket slots b i d l

    -- enough: its own bits are right, and the others are as before
    changed : ((b : ℕ) → has cs b i ≡ (may e && eqb (bucket e) b)) → ((b k : ℕ) → (k ≡ i → ⊥) → has cs b k ≡ has bs b k) → Indexed may bucket (set slots i e) cs
    changed own others b k =
        ⊎_elim
        (λ (q : k ≡ i). ap (has cs b) q ∙ own b ∙ sym (ap (stands may bucket (set slots i e) b) q ∙ stands_set may bucket slots b i e l))
        (λ (q : k ≡ i → ⊥). others b k q ∙ ix b k ∙ sym (stands_aside may bucket slots b i k e q))
        (cases_eq k i)

    -- a slot that may not answer takes an element that may
    pub indexed_put : i < 128 → may (get_or slots i d) ≡ false → may e ≡ true → Marked bs cs (bucket e) i → Indexed may bucket (set slots i e) cs
    indexed_put w f t m =
        changed
        (λ b. marked_own bs cs (bucket e) i b w (at_slot b ∙ and_left (may (get_or slots i d)) (eqb (bucket (get_or slots i d)) b) f) m
        ∙ sym (ap (λ x. x && eqb (bucket e) b) t))
        (λ b k n. marked_aside bs cs (bucket e) i b k n m)

    -- the element of a slot gives way to one that may not answer
    pub indexed_gone : i < 128 → may e ≡ false → Unmarked bs cs (bucket (get_or slots i d)) i → Indexed may bucket (set slots i e) cs
    indexed_gone w f m =
        changed
        (λ b. unmarked_own bs cs (bucket (get_or slots i d)) i b (may (get_or slots i d)) w (at_slot b) m
        ∙ sym (and_left (may e) (eqb (bucket e) b) f))
        (λ b k n. unmarked_aside bs cs (bucket (get_or slots i d)) i b k n m)

    -- the element of a slot gives way to one that may answer
    pub indexed_renewed : (ms : List ℕ) → i < 128 → may e ≡ true → Unmarked bs ms (bucket (get_or slots i d)) i → Marked ms cs (bucket e) i → Indexed may bucket (set slots i e) cs
    indexed_renewed ms w t u m =
        changed
        (λ b. marked_own ms cs (bucket e) i b w (unmarked_own bs ms (bucket (get_or slots i d)) i b (may (get_or slots i d)) w (at_slot b) u) m
        ∙ sym (ap (λ x. x && eqb (bucket e) b) t))
        (λ b k n. marked_aside ms cs (bucket e) i b k n m ∙ unmarked_aside bs ms (bucket (get_or slots i d)) i b k n u)

  -- an element gives way to one that may answer as it may, from the same bucket
  pub indexed_kept : (slots : List E) (bs : List ℕ) (i : ℕ) (d e : E) → i < length slots → Indexed may bucket slots bs → may e ≡ may (get_or slots i d) → bucket e ≡ bucket (get_or slots i d) → Indexed may bucket (set slots i e) bs
  indexed_kept slots bs i d e l ix p q =
      changed slots bs bs i d e l ix
      (λ b. at_slot slots bs bs i d e l ix b ∙ sym (ap₂ (λ x y. x && eqb y b) p q)) (λ b k n. refl)

  -- a further slot, and the last slot taken away
  module _ (slots : List E) (bs cs : List ℕ) (e : E) where
    pub indexed_push : may e ≡ false → Indexed may bucket slots bs → Indexed may bucket (slots ++ e ∷ []) bs
    indexed_push f ix b k =
        ⊎_elim
        (λ (q : k ≡ length slots).
        ix b k ∙ stands_past may bucket slots b k (omega arith)
        ∙ sym (ap (stands may bucket (slots ++ e ∷ []) b) q ∙ stands_push may bucket slots b e ∙ and_left (may e) (eqb (bucket e) b) f))
        (λ (q : k ≡ length slots → ⊥). ix b k ∙ sym (stands_before may bucket slots b k e q))
        (cases_eq k (length slots))

    pub indexed_push_put : length slots < 128 → may e ≡ true → Indexed may bucket slots bs → Marked bs cs (bucket e) (length slots) → Indexed may bucket (slots ++ e ∷ []) cs
    indexed_push_put w t ix m b k =
        ⊎_elim
        (λ (q : k ≡ length slots).
        ap (has cs b) q
        ∙ marked_own bs cs (bucket e) (length slots) b w (ix b (length slots) ∙ stands_past may bucket slots b (length slots) (omega arith)) m
        ∙ sym (ap (stands may bucket (slots ++ e ∷ []) b) q ∙ stands_push may bucket slots b e ∙ ap (λ x. x && eqb (bucket e) b) t))
        (λ (q : k ≡ length slots → ⊥).
        marked_aside bs cs (bucket e) (length slots) b k q m ∙ ix b k ∙ sym (stands_before may bucket slots b k e q))
        (cases_eq k (length slots))

    pub indexed_pop : may e ≡ false → Indexed may bucket (slots ++ e ∷ []) bs → Indexed may bucket slots bs
    indexed_pop f ix b k =
        ⊎_elim
        (λ (q : k ≡ length slots).
        ix b k ∙ ap (stands may bucket (slots ++ e ∷ []) b) q ∙ stands_push may bucket slots b e ∙ and_left (may e) (eqb (bucket e) b) f
        ∙ sym (stands_past may bucket slots b k (omega arith)))
        (λ (q : k ≡ length slots → ⊥). ix b k ∙ stands_before may bucket slots b k e q)
        (cases_eq k (length slots))

    pub indexed_pop_gone : length slots < 128 → Indexed may bucket (slots ++ e ∷ []) bs → Unmarked bs cs (bucket e) (length slots) → Indexed may bucket slots cs
    indexed_pop_gone w ix m b k =
        ⊎_elim
        (λ (q : k ≡ length slots).
        ap (has cs b) q
        ∙ unmarked_own bs cs (bucket e) (length slots) b (may e) w (ix b (length slots) ∙ stands_push may bucket slots b e) m
        ∙ sym (stands_past may bucket slots b k (omega arith)))
        (λ (q : k ≡ length slots → ⊥).
        unmarked_aside bs cs (bucket e) (length slots) b k q m ∙ ix b k ∙ stands_before may bucket slots b k e q)
        (cases_eq k (length slots))
