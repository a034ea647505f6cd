-- What becomes of the tuples as rules come and go.
use Rattle.std.specs.Prelude.{◌≡◌, ℕ, suc, ◌≤◌, Bool, true, cond, not, ◌&&◌, ◌||◌, List, [], ◌∷◌, ◌++◌, length, Some, None, filter, Option}
use Rattle.std.specs.Str.{bytes_eq}
use Rattle.classifier.specs.declared.rule.Rule.{Rule}
use Rattle.tuple_space.specs.declared.ranked_mask.RankedMask.{RankedMask}
use Rattle.tuple_space.specs.Tuples.{worn, larger, rank_of, masks_of, listed, rank_in, distinct}

-- a rule of this mask and priority came: its tuple's rank is at least the priority, and the mask arrives if it is new
pub record Came (ts us : List RankedMask) (m : List ℕ) (p : ℕ) : Type 0 where
  pub masks : (n : List ℕ) → listed us n ≡ (bytes_eq m n || listed ts n)
  pub ranks : (n : List ℕ) → rank_in us n ≡ cond (bytes_eq m n) (larger p (rank_in ts n)) (rank_in ts n)
  pub once : distinct us ≡ true
  pub arrivals : masks_of us ≡ cond (listed ts m) (masks_of ts) (masks_of ts ++ m ∷ [])
  pub few : length us ≤ suc (length ts)

-- the rank of a mask's tuple among the rules that are left, if some rule has the mask
abbrev pub rank_left : List Rule → List ℕ → Option ℕ
rank_left rs m = cond (worn rs m) (Some (rank_of rs m)) None

-- whether a mask is listed, if it was, after the tuple of a mask got another rank or none
abbrev pub still : Option ℕ → Bool → Bool → Bool
still (Some n) same was = was
still None same was = not same && was

-- the rank, 0 for none
abbrev pub new_rank : Option ℕ → ℕ
new_rank (Some n) = n
new_rank None = 0

-- the masks after the tuple of m got another rank or none
abbrev pub left_of : Option ℕ → List ℕ → List (List ℕ) → List (List ℕ)
left_of (Some n) m ms = ms
left_of None m ms = filter (λ x. not (bytes_eq m x)) ms

-- a rule of this mask left: the tuple has this rank now, or is gone
pub record Went (ts us : List RankedMask) (m : List ℕ) (rank : Option ℕ) : Type 0 where
  pub masks : (n : List ℕ) → listed us n ≡ still rank (bytes_eq m n) (listed ts n)
  pub ranks : (n : List ℕ) → rank_in us n ≡ cond (bytes_eq m n) (new_rank rank) (rank_in ts n)
  pub once : distinct us ≡ true
  pub arrivals : masks_of us ≡ left_of rank m (masks_of ts)
  pub few : length us ≤ length ts
