-- The walk of a key over the tables, and the counts that it moves.
-- Its laws are in proofs/: other proofs use those and open no definition.
use Rattle.std.specs.Prelude.{◌≡◌, ℕ, zero, suc, ◌+◌, Bool, true, cond, ◌&&◌, ◌||◌, List, [], ◌∷◌, length, Some, None, Option, ◌==◌, bit_or, nat_le, nat_lt, slice_index_or, slice_set}
use Rattle.std.specs.List.{AllByRecursion}
use Rattle.flow.specs.Masks.{Bytes36, Agree}
use Rattle.classifier.specs.declared.rule.Rule.{Rule}
use Rattle.classifier.specs.declared.rule.Match.{Match}
use Rattle.classifier.specs.Rules.{Lawful, found}
use Rattle.classifier.specs.Tables.{credited}
use Rattle.datapath.specs.declared.level.Mark.{Mark}

-- the four tables, each the list of its rules by rising id
abbrev pub TablesOf : Type 0
TablesOf = List (List Rule)

-- four tables without a rule
abbrev pub no_rules : TablesOf
no_rules = [] ∷ [] ∷ [] ∷ [] ∷ []

-- the rules of one table
abbrev pub table_of : TablesOf → ℕ → List Rule
table_of ts t = slice_index_or ts t []

-- a next table is 0 for none, or above the rule's own and at most 3
abbrev pub good_next : ℕ → ℕ → Bool
good_next t next = next == 0 || (nat_lt t next && nat_le next 3)

-- a rule that was found in a table, as a crossed one
abbrev pub mark_of : ℕ → Match → Mark
mark_of t m = record { table = t; id = m.id; ports = m.ports; next = m.next }

-- no rule found ends the walk; a found one is crossed, and its next table follows, or the walk ends at 0
abbrev pub crossing : ℕ → Option Match → (ℕ → List Mark) → List Mark
crossing t None rest = []
crossing t (Some m) rest = mark_of t m ∷ cond (m.next == 0) [] (rest m.next)

-- the walk from a table on, over at most so many tables
unfoldable pub walk_from : ℕ → TablesOf → ℕ → List ℕ → List Mark
walk_from zero ts t k = []
walk_from (suc n) ts t k = crossing t (found (table_of ts t) k) (λ u. walk_from n ts u k)

-- the rules that a key crosses, in order: from table 0 on
unfoldable pub walk : TablesOf → List ℕ → List Mark
walk ts k = walk_from 4 ts 0 k

-- the ports of the crossed rules, joined
unfoldable pub ports_of : List Mark → ℕ
ports_of [] = 0
ports_of (m ∷ ms) = bit_or m.ports (ports_of ms)

-- two keys are treated alike: they cross the same rules, and so get the same ports
unfoldable pub Alike : TablesOf → List ℕ → List ℕ → Type 0
Alike ts k q = walk ts k ≡ walk ts q

-- the mask tells enough of the key: every key that agrees with it in the mask's bits is treated alike
unfoldable pub Tells : TablesOf → List ℕ → List ℕ → Type 0
Tells ts k m = (q : List ℕ) → Bytes36 q → Agree m k q → Alike ts k q

-- n more for the rule of this id in a table
abbrev pub credit_at : TablesOf → ℕ → ℕ → ℕ → TablesOf
credit_at ts t i n = slice_set ts t (credited (table_of ts t) i n)

-- n more for each of these rules
unfoldable pub credit_along : TablesOf → List Mark → ℕ → TablesOf
credit_along ts [] n = ts
credit_along ts (m ∷ ms) n = credit_along (credit_at ts m.table m.id n) ms n

-- n more for each rule that the key crosses
unfoldable pub due : TablesOf → List ℕ → ℕ → TablesOf
due ts k n = credit_along ts (walk ts k) n

-- from this table on, each rule's next table is a good one
unfoldable pub Forward : ℕ → TablesOf → Type 0
Forward t [] = Unit {0}
Forward t (rs ∷ ts) = AllByRecursion (λ r. good_next t r.next ≡ true) rs × Forward (t + 1) ts

-- what holds of the tables of every level: four of them, each lawful, each rule with a good next table
pub record LawfulTables (ts : TablesOf) : Type 0 where
  pub four : length ts ≡ 4
  pub each : AllByRecursion Lawful ts
  pub forward : Forward 0 ts
