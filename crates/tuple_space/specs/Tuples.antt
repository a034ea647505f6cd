-- The tuples of a table: the masks of its rules, in the order in which they came to stand.
use Rattle.std.specs.Prelude.{◌≡◌, ℕ, Bool, true, false, cond, not, ◌&&◌, ◌||◌, List, [], ◌∷◌, ◌++◌, map, filter, ◌==◌, nat_lt}
use Rattle.std.specs.Str.{bytes_eq}
use Rattle.classifier.specs.declared.rule.Rule.{Rule}
use Rattle.classifier.specs.Tables.{at_id, removed}
use Rattle.tuple_space.specs.declared.ranked_mask.RankedMask.{RankedMask}

-- some rule has the mask
unfoldable pub worn : List Rule → List ℕ → Bool
worn [] m = false
worn (r ∷ rs) m = bytes_eq r.mask m || worn rs m

-- the larger of two numbers
abbrev pub larger : ℕ → ℕ → ℕ
larger a b = cond (nat_lt a b) b a

-- the rank of the mask's tuple: the highest priority of the rules that have the mask
unfoldable pub rank_of : List Rule → List ℕ → ℕ
rank_of [] m = 0
rank_of (r ∷ rs) m = cond (bytes_eq r.mask m) (larger r.priority (rank_of rs m)) (rank_of rs m)

-- the masks after a rule with mask m was added to the rules: a mask comes to stand with the first rule that has it
abbrev pub arrived : List (List ℕ) → List Rule → List ℕ → List (List ℕ)
arrived ms rs m = cond (worn rs m) ms (ms ++ m ∷ [])

-- the masks after a rule with mask m left these rules: a mask leaves with the last rule that has it
abbrev pub remaining : List (List ℕ) → List Rule → List ℕ → List (List ℕ)
remaining ms rs m = cond (worn rs m) ms (filter (λ n. not (bytes_eq m n)) ms)

-- the masks after the rule of this id was removed
abbrev pub left_after : List (List ℕ) → List Rule → ℕ → List (List ℕ)
left_after ms rs i = at_id (λ r. remaining ms (removed rs i) r.mask) ms rs i

-- the masks of some tuples
abbrev pub masks_of : List RankedMask → List (List ℕ)
masks_of ts = map (λ t. t.mask) ts

-- the tuple of a mask
abbrev pub tuple_of : List Rule → List ℕ → RankedMask
tuple_of rs m = record { mask = m; rank = rank_of rs m }

-- What the tuples of some rules keep -------------------------------------------------------------------------

-- a tuple with the mask is among them
unfoldable pub listed : List RankedMask → List ℕ → Bool
listed [] m = false
listed (t ∷ ts) m = bytes_eq t.mask m || listed ts m

-- the rank of the first tuple with the mask; 0 if there is none
unfoldable pub rank_in : List RankedMask → List ℕ → ℕ
rank_in [] m = 0
rank_in (t ∷ ts) m = cond (bytes_eq t.mask m) t.rank (rank_in ts m)

-- no two tuples have one mask
unfoldable pub distinct : List RankedMask → Bool
distinct [] = true
distinct (t ∷ ts) = not (listed ts t.mask) && distinct ts

-- two lists of tuples are the same
unfoldable pub same_tuples : List RankedMask → List RankedMask → Bool
same_tuples [] [] = true
same_tuples [] (u ∷ us) = false
same_tuples (t ∷ ts) [] = false
same_tuples (t ∷ ts) (u ∷ us) = (bytes_eq t.mask u.mask && t.rank == u.rank) && same_tuples ts us

-- the tuples are those of the rules: each mask of a rule once, with its rank
pub record TuplesOf (rs : List Rule) (ts : List RankedMask) : Type 0 where
  pub masks : (m : List ℕ) → listed ts m ≡ worn rs m
  pub ranks : (m : List ℕ) → rank_in ts m ≡ rank_of rs m
  pub once : distinct ts ≡ true
