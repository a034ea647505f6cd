-- What the places of a store say of its rules by id: ready facts for what a linear classifier does there.
use Rattle.std.specs.Prelude.{◌≡◌, ℕ, ◌<◌, Bool, true, cond, List, length, get_or, Some, None, Option, nat_le, slice_index_or, slice_set}
use Rattle.std.specs.List as holes
use Rattle.classifier.specs.declared.rule.Rule.{Rule}
use Rattle.classifier.specs.Tables.{Refusal, clash_refusal, removed, raised, credited, count_of, of_id, missing_refusal}
use Rattle.classifier.specs.Stores.{by_id, standing}

-- no rule of this id stands
pub record Absent (rs : List Rule) (i : ℕ) : Type 0 where
  pub refused : missing_refusal (by_id rs) i ≡ Some (12, i)
  pub unpaid_kept : (n : ℕ) → credited rs i n ≡ rs
  pub unpaid : (n : ℕ) → credited (by_id rs) i n ≡ by_id rs

-- the rule of this id stands at place p
pub record Placed (rs : List Rule) (i p : ℕ) : Type 0 where
  pub within : p < length rs
  pub present : missing_refusal (by_id rs) i ≡ None
  pub counts : (d : Rule) → (get_or rs p d).count ≡ count_of (by_id rs) i
  pub found : (d : Rule) → of_id (by_id rs) i ≡ Some (slice_index_or rs p d)
  -- the rules without it
  pub taken : by_id (holes.remove rs p) ≡ removed (by_id rs) i
  pub taken_stands : standing (holes.remove rs p) ≡ true
  -- the rules with its count raised
  pub paid_kept : (n : ℕ) (d : Rule) → slice_set rs p (raised n (slice_index_or rs p d)) ≡ credited rs i n
  pub paid : (n : ℕ) (d : Rule) → by_id (slice_set rs p (raised n (slice_index_or rs p d))) ≡ credited (by_id rs) i n
  pub paid_stands : (n : ℕ) (d : Rule) → standing (slice_set rs p (raised n (slice_index_or rs p d))) ≡ true

-- why a new rule may not stand, by the three tests
abbrev pub admission : Bool → ℕ → Option ℕ → Rule → Option Refusal
admission there n clashed new = cond there (Some (9, new.id)) (cond (nat_le 64 n) (Some (10, 64)) (clash_refusal clashed))
