use Rattle.std.proofs.Common.{vec_items, sym, subst}
use Rattle.classifier.specs.Rules.{fresh}
use Rattle.tuple_space.specs.Changes.{Came}
use Rattle.tuple_space.specs.Arrivals.{rules_of}
use Rattle.tuple_space.specs.Tuples.{TuplesOf}
use Rattle.tuple_space.proofs.ChangeLaws.{tuples_came}
use Rattle.tuple_space.proofs.SpaceLaws.{tuples_held, few_before}
use Rattle.tuple_space.proofs.space.methods.TupleSpaceClassifier.add.Goals as goal

pub came-requires : goal.came-requires
came-requires c = few_before c.args.self.now _ c.in_ok-add.ensures.0

pub invariant_of-self-2 : goal.invariant_of-self-2
invariant_of-self-2 c =
    let s = c.args.self.now in
    let us = vec_items c.came.new.self.arrived in
    let came = subst (λ m. Came (vec_items s.masks.arrived) us m c.args.new.now.priority) c.mask.ensures c.came.ensures in
    let t = subst (λ rs. TuplesOf rs us) (sym c.in_ok-add.ensures.1) (tuples_came (rules_of s) (fresh c.args.new.now) (vec_items s.masks.arrived) us (tuples_held s) came) in
    record { covered = t.masks; ranks = t.ranks }
