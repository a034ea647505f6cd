use Rattle.std.proofs.Common.{vec_items, ap, ◌∙◌, subst}
use Rattle.classifier.specs.Kept.{kept}
use Rattle.tuple_space.specs.Changes.{Went, rank_left}
use Rattle.tuple_space.proofs.SpaceLaws.{after_removal, named_listed}
use Rattle.tuple_space.proofs.space.methods.TupleSpaceClassifier.remove.Goals as goal

pub went-requires : goal.went-requires
went-requires c = named_listed c.args.self.now c.args.id c.in_ok-rule.rule c.in_ok-rule.ensures.2

pub invariant_of-self-2 : goal.invariant_of-self-2
invariant_of-self-2 c =
    let s = c.args.self.now in
    let us = vec_items c.went.new.self.arrived in
    let w = subst (Went (vec_items s.masks.arrived) us c.in_ok-rule.rule.mask) (c.rank_left-rank.ensures ∙ ap (λ xs. rank_left xs c.in_ok-rule.rule.mask) c.rules.ensures) c.went.ensures in
    let t = (after_removal s c.args.id c.in_ok-rule.rule (kept c.remove.new.self.store) us c.in_ok-rule.ensures.2 c.in_ok-rule.ensures.1 w).tuples in
    record { covered = t.masks; ranks = t.ranks }

pub returns-clause-masks : goal.returns-clause-masks
returns-clause-masks c =
    let s = c.args.self.now in
    let us = vec_items c.went.new.self.arrived in
    let w = subst (Went (vec_items s.masks.arrived) us c.in_ok-rule.rule.mask) (c.rank_left-rank.ensures ∙ ap (λ xs. rank_left xs c.in_ok-rule.rule.mask) c.rules.ensures) c.went.ensures in
    (after_removal s c.args.id c.in_ok-rule.rule (kept c.remove.new.self.store) us c.in_ok-rule.ensures.2 c.in_ok-rule.ensures.1 w).masks
