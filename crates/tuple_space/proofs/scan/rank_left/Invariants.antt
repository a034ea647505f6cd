use Rattle.std.proofs.Common.{◌≡◌, drop}
use Rattle.tuple_space.specs.Changes.{rank_left}
use Rattle.tuple_space.specs.Visits.{topmost}
use Rattle.tuple_space.proofs.scan.rank_left.Given as goal

abbrev pub invariant-loop-rule : goal.invariant-loop-rule
invariant-loop-rule l = topmost l.top (rank_left (drop l.rule-index l.rules) l.mask) ≡ rank_left l.rules l.mask
