use Rattle.std.proofs.Common.{◌≡◌, map, take, vec_items}
use Rattle.datapath.specs.Walk.{credit_along}
use Rattle.datapath.proofs.four.Four.credit_along.Given as goal

abbrev pub invariant-loop-mark : goal.invariant-loop-mark
invariant-loop-mark g l =
    map g.C.Classifier.rules (vec_items l.self.classifiers) ≡ credit_along (map g.C.Classifier.rules (vec_items l.initial.self.classifiers)) (take l.mark-index l.mark-items) l.n
