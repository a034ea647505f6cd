use Rattle.std.proofs.Common.{◌≡◌, List, [], ◌∷◌, ◌++◌, map, length, replicate, vec_items, sym, ap, ◌∙◌, subst, ap₂, arith}
use Rattle.std.proofs.lemmas.List.{map_push, replicate_more, length-map}
use Rattle.classifier.specs.declared.rule.Rule.{Rule}
use Rattle.datapath.specs.Walk.{Forward, no_rules}
use Rattle.datapath.specs.TablesLevelLemmas.{lawful_rules}
use Rattle.datapath.proofs.four.Four.new.Goals as goal

pub loop-preserved : goal.loop-preserved
loop-preserved g c =
    let f = g.C.Classifier.rules in
    let xs = vec_items c.loop.classifiers in
    ap (map f) c.in_ok-push.ensures.items
    ∙ map_push f xs _
    ∙ ap₂ (λ (a : List (List Rule)) (b : List Rule). a ++ b ∷ []) c.loop.invariant c.in_ok-new.ensures
    ∙ replicate_more c.loop.counter []

empty_forward : Forward 0 no_rules
unfolding Forward
empty_forward = (tt, (tt, (tt, (tt, tt))))

pub invariant_of-result : goal.invariant_of-result
invariant_of-result g c =
    let f = g.C.Classifier.rules in
    let xs = vec_items c.loop.classifiers in
    let end : c.loop.counter ≡ 4 = omega (arith, c.loop-test.false, c.loop.auto.counter-end) in
    let none : map f xs ≡ no_rules = c.loop.invariant ∙ ap (λ n. replicate n []) end in
    let four : length xs ≡ 4 = sym (length-map xs f) ∙ ap length none in
    record { four = four; lawful = lawful_rules f g.met.C.Classifier.lawful xs four (subst (Forward 0) (sym none) empty_forward) }

pub returns : goal.returns
returns g c =
    let end : c.loop.counter ≡ 4 = omega (arith, c.loop-test.false, c.loop.auto.counter-end) in
    c.loop.invariant ∙ ap (λ n. replicate n []) end
