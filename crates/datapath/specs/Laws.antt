-- Laws of the walk, above its definition.
use Rattle.std.specs.Prelude.{◌≡◌, ℕ, List, Some}
use Rattle.std.specs.List.{AllByRecursion}
use Rattle.classifier.specs.declared.rule.Match.{Match}
use Rattle.classifier.specs.Rules.{found}
use Rattle.classifier.specs.Tables.{plus}
use Rattle.datapath.specs.declared.level.Mark.{Mark}
use Rattle.datapath.specs.Walk.{TablesOf, table_of, walk, Alike, due}

-- a crossed rule without its table
abbrev pub match_of : Mark → Match
match_of m = record { id = m.id; ports = m.ports; next = m.next }

-- a crossed rule is the one that decides the key in its table
abbrev pub DecidedThere : TablesOf → List ℕ → Mark → Type 0
DecidedThere ts k m = found (table_of ts m.table) k ≡ Some (match_of m)

pub record WalkLaws : Type 0 where
  -- in each table that a key crosses, the matching rule of highest priority is the one crossed
  pub decided : (ts : TablesOf) (k : List ℕ) → AllByRecursion (DecidedThere ts k) (walk ts k)
  -- counts change no walk
  pub counts_aside : (ts : TablesOf) (k q : List ℕ) (n : ℕ) → walk (due ts k n) q ≡ walk ts q
  -- keys that are treated alike move the same counts
  pub same_counts : (ts : TablesOf) (k q : List ℕ) (n : ℕ) → Alike ts k q → due ts k n ≡ due ts q n
  -- the order of two credits does not matter
  pub any_order : (ts : TablesOf) (k q : List ℕ) (n m : ℕ) → due (due ts k n) q m ≡ due (due ts q m) k n
  -- two credits at one key are one, modulo 2^64
  pub joined : (ts : TablesOf) (k : List ℕ) (n m : ℕ) → due (due ts k n) k m ≡ due ts k (plus n m)
