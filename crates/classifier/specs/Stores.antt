-- A store of rules in an order of its own, and the order in which a linear classifier looks at its rules.
use Rattle.std.specs.Prelude.{◌≡◌, ℕ, ◌^◌, ◌<◌, Bool, true, cond, not, ◌&&◌, ◌||◌, ltb, List, [], ◌∷◌, length, Some, None, Option, ◌==◌, nat_le, nat_lt, slice_index_or}
use Rattle.std.specs.List.{list_all}
use Rattle.flow.specs.Masks.{inside, union, empty_mask}
use Rattle.classifier.specs.declared.rule.Rule.{Rule}
use Rattle.classifier.specs.Rules.{matches, clashing}
use Rattle.classifier.specs.Tables.{added, stands}

-- the rules of a store, by rising id
unfoldable pub by_id : List Rule → List Rule
by_id [] = []
by_id (r ∷ rs) = added (by_id rs) r

-- r is looked at before s: its priority is higher, or its id is lower at the same priority
abbrev pub before : Rule → Rule → Bool
before r s = nat_lt s.priority r.priority || (r.priority == s.priority && nat_lt r.id s.id)

-- the rules with one more, in its place in the order of looking
unfoldable pub ranked : List Rule → Rule → List Rule
ranked [] new = new ∷ []
ranked (r ∷ rs) new = cond (before new r) (new ∷ r ∷ rs) (r ∷ ranked rs new)

-- the rules in the order of looking
unfoldable pub by_rank : List Rule → List Rule
by_rank [] = []
by_rank (r ∷ rs) = ranked (by_rank rs) r

-- the first rule that matches
abbrev pub first_match : List Rule → List ℕ → Option Rule
first_match [] k = None
first_match (r ∷ rs) k = cond (matches r k) (Some r) (first_match rs k)

-- the bits of the rules down to the first that matches
unfoldable pub looked_at : List Rule → List ℕ → List ℕ
looked_at [] k = empty_mask
looked_at (r ∷ rs) k = cond (matches r k) r.mask (union r.mask (looked_at rs k))

-- the mask of a linear classifier's find
unfoldable pub linear_mask : List Rule → List ℕ → List ℕ
linear_mask rs k = looked_at (by_rank rs) k

-- the rule of this id stands at place p
pub record StandsAt (rs : List Rule) (i p : ℕ) : Type 0 where
  pub within : p < length rs
  pub there : (d : Rule) → (slice_index_or rs p d).id ≡ i
  pub test : stands rs i ≡ true

-- What a linear classifier's store keeps, as tests ------------------------------------------------------------

-- 36 bytes
abbrev pub bytes_test : List ℕ → Bool
bytes_test xs = length xs == 36 && list_all (λ b. ltb b 256) xs

-- a rule's masked key is one, and its numbers have their widths
unfoldable pub sound_test : Rule → Bool
sound_test r =
    bytes_test r.mask && (bytes_test r.value && (inside r.value r.mask && (nat_lt r.id (2 ^ 32) && nat_lt r.count (2 ^ 64))))

-- r may stand before s: it is looked at before, has another id, and does not clash with it at the same priority
unfoldable pub pair_test : Rule → Rule → Bool
pair_test r s =
    before r s && (not (r.id == s.id) && not (r.priority == s.priority && clashing r s))

-- each rule passes with each that stands after it
unfoldable pub pairs_test : List Rule → Bool
pairs_test [] = true
pairs_test (r ∷ rs) = list_all (pair_test r) rs && pairs_test rs

-- the rules stand in the order of looking and may stand in one table
unfoldable pub standing : List Rule → Bool
standing rs = list_all sound_test rs && (pairs_test rs && nat_le (length rs) 64)
