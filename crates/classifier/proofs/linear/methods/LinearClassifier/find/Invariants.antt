use Rattle.std.proofs.Common.{◌≡◌, length, drop}
use Rattle.flow.specs.Masks.{union, empty_mask}
use Rattle.classifier.specs.Stores.{first_match, looked_at}
use Rattle.classifier.proofs.linear.methods.LinearClassifier.find.Given as goal

abbrev pub invariant-loop-rule : goal.invariant-loop-rule
invariant-loop-rule l =
    (length l.mask ≡ 36)
    × (first_match l.rule-items l.key ≡ first_match (drop l.rule-index l.rule-items) l.key)
    × (union l.mask (looked_at (drop l.rule-index l.rule-items) l.key) ≡ union empty_mask (looked_at l.rule-items l.key))
