use Rattle.std.proofs.Common.{None, vec_items, ap, ◌∙◌}
use Rattle.std.specs.Option.{option_map}
use Rattle.flow.specs.Masks.{union, empty_mask}
use Rattle.classifier.specs.KeptLaws.{lawful_kept}
use Rattle.tuple_space.specs.Arrivals.{rules_of}
use Rattle.tuple_space.specs.Visits.{searched, outcome, visited, joined}
use Rattle.tuple_space.proofs.FindLaws.{visit_finds}
use Rattle.tuple_space.proofs.SpaceLaws.{tuples_held}
use Rattle.tuple_space.proofs.space.methods.TupleSpaceClassifier.find.Goals as goal

pub returns : goal.returns
returns c =
    let s = c.args.self.now in
    let k = c.args.key.now in
    let rs = rules_of s in
    let ts = vec_items s.masks.arrived in
    let e = c.visits.ensures in
    let v = visit_finds rs ts k c.visit.result.mask (lawful_kept s.rules.store) (tuples_held s)
    (c.visit.ensures.mask ∙ ap (λ us. union empty_mask (joined (visited rs k None us))) e) in
    record {
      rule = c.visit.ensures.rule ∙ ap (λ us. option_map (λ f. f.rule) (outcome (λ f. f.priority) (searched rs k) None us)) e ∙ v.rule;
      mask = v.mask;
      given = v.exact;
    }
