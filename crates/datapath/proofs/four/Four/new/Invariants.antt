use Rattle.std.proofs.Common.{◌≡◌, [], map, replicate, vec_items}
use Rattle.datapath.proofs.four.Four.new.Given as goal

abbrev pub invariant-loop : goal.invariant-loop
invariant-loop g l = map g.C.Classifier.rules (vec_items l.classifiers) ≡ replicate l.counter []
