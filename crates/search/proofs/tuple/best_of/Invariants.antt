use Rattle.std.proofs.Common.{◌≡◌, ℕ, ◌^◌, ◌<◌}
use Rattle.std.specs.Option.{option_map}
use Rattle.search.specs.Best.{best, numbered, covering}
use Rattle.search.specs.Searches.{marking, seen}
use Rattle.search.proofs.BestLaws.{joined, rest}
use Rattle.search.proofs.SearchLaws.{Left}
use Rattle.search.proofs.tuple.best_of.Given as goal

abbrev pub invariant-loop-left : goal.invariant-loop-left
invariant-loop-left g l =
    let m = g.E.Element in
    let f = marking l.set (covering m.masks m.values l.mask l.key) in
    (j : ℕ) × Left l.set j l.left
    × (joined (λ x. m.level x.1) (option_map seen l.top) (rest m.level f j l.slots) ≡ best (λ x. m.level x.1) f (numbered 0 l.slots))
    × (l.left < 2 ^ 128)

abbrev pub decreases-loop-left : goal.decreases-loop-left
decreases-loop-left g l = l.left
