use Rattle.std.proofs.Common.{vec_items, sym, subst}
use Rattle.tuple_space.specs.Arrivals.{rules_of}
use Rattle.tuple_space.specs.Tuples.{TuplesOf}
use Rattle.tuple_space.proofs.ChangeLaws.{tuples_credited}
use Rattle.tuple_space.proofs.SpaceLaws.{tuples_held}
use Rattle.tuple_space.proofs.space.methods.TupleSpaceClassifier.credit.Goals as goal

pub invariant_of-self : goal.invariant_of-self
invariant_of-self c =
    let s = c.args.self.now in
    let arrivals = vec_items s.masks.arrived in
    let t = subst (λ rs. TuplesOf rs arrivals) (sym c.credit.ensures) (tuples_credited (rules_of s) c.args.id c.args.n arrivals (tuples_held s)) in
    record { covered = t.masks; ranks = t.ranks }
