-- The entries of cache levels, as far as their truth goes.
use Rattle.std.specs.Prelude.{◌≡◌, ℕ, List}
use Rattle.std.specs.List.{AllByRecursion}
use Rattle.flow.specs.Masks.{Bytes36, Covers}
use Rattle.datapath.specs.Walk.{TablesOf, walk, ports_of, Alike}

-- an unsuspected entry: what it covers, and the ports that it gives
pub record Entry : Type 0 where
  pub mask : List ℕ
  pub value : List ℕ
  pub ports : ℕ

-- the entry covers only keys that the rules treat alike, and has their ports
unfoldable pub TrueEntry : TablesOf → Entry → Type 0
TrueEntry ts e =
    (q : List ℕ) → Bytes36 q → Covers e.mask e.value q
    → Alike ts e.value q × (ports_of (walk ts q) ≡ e.ports)

unfoldable pub AllTrue : TablesOf → List Entry → Type 0
AllTrue ts es = AllByRecursion (TrueEntry ts) es
