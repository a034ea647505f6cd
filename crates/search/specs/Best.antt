-- Which of the elements of a tuple answers a key.
use Rattle.std.specs.Prelude.{ℕ, ◌+◌, Bool, cond, ◌&&◌, List, [], ◌∷◌, Some, None, Option, nat_lt}
use Rattle.std.specs.Option.{option_map}
use Rattle.std.specs.Str.{bytes_eq}
use Rattle.flow.specs.Masks.{covered}

-- of an element and the best of those after it, the one of higher rank; of the same rank, the later
abbrev pub higher : {E : Type 0} → (E → ℕ) → E → Option E → Option E
higher rank e None = Some e
higher rank e (Some b) = cond (nat_lt (rank b) (rank e)) (Some e) (Some b)

-- the element of highest rank among those that fit
unfoldable pub best : {E : Type 0} → (E → ℕ) → (E → Bool) → List E → Option E
best rank fits [] = None
best rank fits (e ∷ es) = cond (fits e) (higher rank e (best rank fits es)) (best rank fits es)

-- the elements with their places, counted from n
unfoldable pub numbered : {E : Type 0} → ℕ → List E → List (ℕ × E)
numbered n [] = []
numbered n (e ∷ es) = (n, e) ∷ numbered (n + 1) es

-- the place of the element of highest rank among those that fit
abbrev pub best_place : {E : Type 0} → (E → ℕ) → (E → Bool) → List E → Option ℕ
best_place rank fits es = option_map (λ x. x.0) (best (λ x. rank x.1) (λ x. fits x.1) (numbered 0 es))

-- an element has the mask and covers the key
abbrev pub covering : {E : Type 0} → (masks values : E → List ℕ) → List ℕ → List ℕ → E → Bool
covering masks values mask key e = bytes_eq (masks e) mask && covered mask (values e) key

-- an element fits a search: it may answer, has the mask and covers the key
abbrev pub fitting : {E : Type 0} → (E → Bool) → (masks values : E → List ℕ) → List ℕ → List ℕ → E → Bool
fitting may masks values mask key e = may e && covering masks values mask key e
