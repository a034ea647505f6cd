-- What add, remove, credit and count do to the rules of one table, which stand by rising id.
use Rattle.std.specs.Prelude.{ℕ, ◌+◌, ◌%◌, ◌^◌, Bool, false, cond, not, ◌&&◌, ◌||◌, List, [], ◌∷◌, map, length, Some, None, filter, Option, ◌==◌, nat_le, nat_lt}
use Rattle.classifier.specs.declared.rule.Rule.{Rule}
use Rattle.classifier.specs.Rules.{clashing}

-- a refusal: its number, and the detail that it gives
abbrev pub Refusal : Type 0
Refusal = ℕ × ℕ

-- a rule with this id stands
unfoldable pub stands : List Rule → ℕ → Bool
stands [] i = false
stands (r ∷ rs) i = r.id == i || stands rs i

-- the smallest id of a standing rule that has the new one's priority and clashes with it
unfoldable pub clash : List Rule → Rule → Option ℕ
clash [] new = None
clash (r ∷ rs) new = cond (r.priority == new.priority && clashing r new) (Some r.id) (clash rs new)

-- the clash as a refusal
abbrev pub clash_refusal : Option ℕ → Option Refusal
clash_refusal None = None
clash_refusal (Some i) = Some (11, i)

-- why a new rule may not stand: its id stands, there are 64 rules, or it clashes with one of its priority
unfoldable pub add_refusal : List Rule → Rule → Option Refusal
add_refusal rs new =
    cond (stands rs new.id) (Some (9, new.id))
    (cond (nat_le 64 (length rs)) (Some (10, 64)) (clash_refusal (clash rs new)))

-- the rules with one more, in its place by id
unfoldable pub added : List Rule → Rule → List Rule
added [] new = new ∷ []
added (r ∷ rs) new = cond (nat_lt new.id r.id) (new ∷ r ∷ rs) (r ∷ added rs new)

-- why no rule of this id can be removed or counted: none stands
unfoldable pub missing_refusal : List Rule → ℕ → Option Refusal
missing_refusal rs i = cond (stands rs i) None (Some (12, i))

-- the rules without that of this id
unfoldable pub removed : List Rule → ℕ → List Rule
removed rs i = filter (λ r. not (r.id == i)) rs

-- a sum of counts, modulo 2^64
abbrev pub plus : ℕ → ℕ → ℕ
plus a n = (a + n) % 2 ^ 64

-- a rule whose count has grown by n
abbrev pub raised : ℕ → Rule → Rule
raised n r =
    record { id = r.id; priority = r.priority; mask = r.mask; value = r.value; ports = r.ports; next = r.next; count = plus r.count n }

-- the rules after n more for the rule of this id, if it stands
unfoldable pub credited : List Rule → ℕ → ℕ → List Rule
credited rs i n = map (λ r. cond (r.id == i) (raised n r) r) rs

-- what f says of the rule of this id; d if none stands
unfoldable pub at_id : {X : Type 0} → (Rule → X) → X → List Rule → ℕ → X
at_id f d [] i = d
at_id f d (r ∷ rs) i = cond (r.id == i) (f r) (at_id f d rs i)

-- the count of the rule of this id; 0 if none stands
abbrev pub count_of : List Rule → ℕ → ℕ
count_of rs i = at_id (λ r. r.count) 0 rs i

-- the rule of this id, if it stands
abbrev pub of_id : List Rule → ℕ → Option Rule
of_id rs i = at_id Some None rs i
