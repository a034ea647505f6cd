-- Which tuples a find visits, and the mask that it gives.
use Rattle.std.specs.Prelude.{ℕ, Bool, true, cond, List, [], ◌∷◌, map, Some, None, filter, Option, nat_lt}
use Rattle.std.specs.Option.{option_map}
use Rattle.std.specs.Str.{bytes_eq}
use Rattle.flow.specs.Masks.{union, empty_mask}
use Rattle.classifier.specs.declared.rule.Rule.{Rule}
use Rattle.classifier.specs.declared.element.Found.{Found}
use Rattle.classifier.specs.Found.{found_of}
use Rattle.classifier.specs.Rules.{best}
use Rattle.tuple_space.specs.declared.ranked_mask.RankedMask.{RankedMask}
use Rattle.tuple_space.specs.Tuples.{tuple_of, larger}

-- The order of visits ----------------------------------------------------------------------------------------

-- a tuple in its place: behind those whose rank is as high, before those of lower rank
unfoldable pub placed : List RankedMask → RankedMask → List RankedMask
placed [] t = t ∷ []
placed (u ∷ us) t = cond (nat_lt u.rank t.rank) (t ∷ u ∷ us) (u ∷ placed us t)

-- tuples that arrived one after the other, put in their places among others
unfoldable pub ordered : List RankedMask → List RankedMask → List RankedMask
ordered us [] = us
ordered us (t ∷ ts) = ordered (placed us t) ts

-- the tuples by falling rank, then by when their masks came to stand
abbrev pub visit_order : List Rule → List (List ℕ) → List RankedMask
visit_order rs ms = ordered [] (map (tuple_of rs) ms)

-- The visit --------------------------------------------------------------------------------------------------

-- the rules that have the mask
abbrev pub having : List Rule → List ℕ → List Rule
having rs m = filter (λ r. bytes_eq r.mask m) rs

-- the priority that a search of the mask's tuple finds for the key, if a rule matches
abbrev pub priority_in : List Rule → List ℕ → List ℕ → Option ℕ
priority_in rs m k = option_map (λ r. r.priority) (best (having rs m) k)

-- what that search says of the rule
abbrev pub searched : List Rule → List ℕ → List ℕ → Option Found
searched rs k m = option_map found_of (best (having rs m) k)

-- the rank is above the priority found so far
abbrev pub above : ℕ → Option ℕ → Bool
above rank None = true
above rank (Some p) = nat_lt p rank

-- the higher of the priorities found
abbrev pub topmost : Option ℕ → Option ℕ → Option ℕ
topmost None q = q
topmost (Some p) None = Some p
topmost (Some p) (Some q) = Some (larger p q)

-- the better of what was found so far and what a further tuple gave; p gives priorities
abbrev pub better : {X : Type 0} → (X → ℕ) → Option X → Option X → Option X
better p None n = n
better p (Some b) None = Some b
better p (Some b) (Some c) = cond (nat_lt (p b) (p c)) (Some c) (Some b)

-- what is found, with o found so far, where f gives what the search of a mask's tuple finds
unfoldable pub outcome : {X : Type 0} → (X → ℕ) → (List ℕ → Option X) → Option X → List RankedMask → Option X
outcome p f o [] = o
outcome p f o (t ∷ ts) = cond (above t.rank (option_map p o)) (outcome p f (better p o (f t.mask)) ts) o

-- the masks visited, with p found so far: until the next rank is not above the priority found
unfoldable pub visited : List Rule → List ℕ → Option ℕ → List RankedMask → List (List ℕ)
visited rs k p [] = []
visited rs k p (t ∷ ts) = cond (above t.rank p) (t.mask ∷ visited rs k (topmost p (priority_in rs t.mask k)) ts) []

-- the bits of some masks
unfoldable pub joined : List (List ℕ) → List ℕ
joined [] = empty_mask
joined (m ∷ ms) = union m (joined ms)

-- the mask of a find among the rules, whose masks came to stand in this order: the bits of the masks visited
unfoldable pub tuple_mask : List (List ℕ) → List Rule → List ℕ → List ℕ
tuple_mask ms rs k = joined (visited rs k None (visit_order rs ms))
