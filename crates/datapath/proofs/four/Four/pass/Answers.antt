use Rattle.std.proofs.Common.{map, vec_items, ap, ◌∙◌}
use Rattle.datapath.specs.Walk.{credit_along, due}
use Rattle.datapath.proofs.four.Four.pass.Goals as goal

pub returns-clause-counted : goal.returns-clause-counted
unfolding due
returns-clause-counted g c =
    c.credit_along.ensures ∙ ap (λ x. credit_along (map g.C.Classifier.rules (vec_items c.args.self.now.classifiers)) x c.args.n) c.walk-walk.ensures.crossed
