-- What the types of the tables need of their facts.
use Rattle.std.specs.Prelude.{◌≡◌, ℕ, ◌+◌, true, List, [], ◌∷◌, map, length}
use Rattle.std.specs.List.{AllByRecursion, AllByRecursion-prop}
use Rattle.std.specs.Coded.{×_prop, Unit-prop}
use Rattle.std.proofs.Common.{◌∙◌}
use Rattle.std.proofs.ByRecursion.{All-map}
use Rattle.std.proofs.lemmas.List.{length-map}
use Rattle.std.proofs.Props.{props}
use Rattle.classifier.specs.declared.rule.Rule.{Rule}
use Rattle.classifier.specs.Rules.{SoundRule, Rising, Apart, Lawful}
use Rattle.datapath.specs.Walk.{TablesOf, Forward, LawfulTables, good_next}

-- what holds of every value holds of each in a list
pub each : {X : Type 0} (P : X → Type 0) → ((x : X) → P x) → (xs : List X) → AllByRecursion P xs
each P h [] = tt
each P h (x ∷ xs) = (h x, each P h xs)

-- four classifiers hold lawful tables, where each next table is a good one
pub lawful_rules : {C : Type 0} (f : C → List Rule) → ((c : C) → Lawful (f c)) → (cs : List C) → length cs ≡ 4 → Forward 0 (map f cs) → LawfulTables (map f cs)
lawful_rules f lawful cs four forward =
    record { four = length-map cs f ∙ four; each = All-map Lawful f cs (each (λ c. Lawful (f c)) lawful cs); forward = forward }

-- that tables go forward has at most one proof
pub Forward-prop : (t : ℕ) (ts : TablesOf) → IsProp (Forward t ts)
unfolding Forward
Forward-prop t [] = Unit-prop
Forward-prop t (rs ∷ ts) =
    ×_prop (AllByRecursion-prop (λ r. good_next t r.next ≡ true) (λ r. Prim.hlevel props) rs) (Forward-prop (t + 1) ts)

SoundRule-prop : (r : Rule) → IsProp (SoundRule r)
SoundRule-prop r = Prim.hlevel props

Rising-prop : (rs : List Rule) → IsProp (Rising rs)
unfolding Rising
Rising-prop [] = Unit-prop
Rising-prop (r ∷ rs) = ×_prop (AllByRecursion-prop _ (λ s. Prim.hlevel props) rs) (Rising-prop rs)

Apart-prop : (rs : List Rule) → IsProp (Apart rs)
unfolding Apart
Apart-prop [] = Unit-prop
Apart-prop (r ∷ rs) = ×_prop (AllByRecursion-prop _ (λ s. Prim.hlevel props) rs) (Apart-prop rs)

Lawful-prop : (rs : List Rule) → IsProp (Lawful rs)
Lawful-prop rs =
    let sound : IsProp (AllByRecursion SoundRule rs) = AllByRecursion-prop SoundRule SoundRule-prop rs in
    let rising = Rising-prop rs in
    let apart = Apart-prop rs in
    Prim.hlevel (sound, rising, apart, props)

-- that each table is lawful has at most one proof
pub each-prop : (ts : TablesOf) → IsProp (AllByRecursion Lawful ts)
each-prop ts = AllByRecursion-prop Lawful Lawful-prop ts

-- that tables are lawful has at most one proof
pub LawfulTables-prop : (ts : TablesOf) → IsProp (LawfulTables ts)
LawfulTables-prop ts =
    let lawful = each-prop ts in
    let forward = Forward-prop 0 ts in
    Prim.hlevel (lawful, forward, props)
