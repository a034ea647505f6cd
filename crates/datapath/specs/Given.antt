-- Which masks a walk may give.
use Rattle.std.specs.Prelude.{◌≡◌, ℕ, zero, suc, cond, List, [], ◌∷◌, map, Some, None, Option, ◌==◌}
use Rattle.flow.specs.Masks.{union, empty_mask}
use Rattle.classifier.specs.declared.rule.Rule.{Rule}
use Rattle.classifier.specs.declared.rule.Match.{Match}
use Rattle.classifier.specs.Rules.{found}
use Rattle.datapath.specs.Walk.{TablesOf, table_of}

-- the find of table t may give the mask f, where `gives` says which masks a classifier's find may give
unfoldable pub TableGives : {C : Type 0} → (C → List ℕ → List ℕ → Type 0) → List C → ℕ → List ℕ → List ℕ → Type 0
TableGives gives [] t k f = ⊥
TableGives gives (c ∷ cs) zero k f = gives c k f
TableGives gives (c ∷ cs) (suc t) k f = TableGives gives cs t k f

-- no rule found ends the walk, and so does next 0; else the next table follows
abbrev pub EndedOr : Option Match → Type 0 → (ℕ → Type 0) → Type 0
EndedOr None ended onward = ended
EndedOr (Some r) ended onward = cond (r.next == 0) ended (onward r.next)

-- w is a mask of the walk from table t on, over at most so many tables, to which m had joined before: each find's mask joins
unfoldable pub Joins : (ℕ → List ℕ → Type 0) → ℕ → TablesOf → ℕ → List ℕ → List ℕ → List ℕ → Type 0
Joins gives zero ts t k m w = m ≡ w
Joins gives (suc n) ts t k m w =
    (f : List ℕ) × gives t f × EndedOr (found (table_of ts t) k) (union m f ≡ w) (λ u. Joins gives n ts u k (union m f) w)

-- w is a mask of the walk of the key: from table 0 on, with an empty mask
abbrev pub WalkGives : {C : Type 0} → (C → List ℕ → List ℕ → Type 0) → (C → List Rule) → List C → List ℕ → List ℕ → Type 0
WalkGives gives rules cs k w = Joins (λ t f. TableGives gives cs t k f) 4 (map rules cs) 0 k empty_mask w
