use Rattle.std.proofs.Common.{◌≡◌, ◌+◌, ◌<◌, [], map, length, get_or, set, vec_items, sym, refl, ap, ◌∙◌, arith, length-set}
use Rattle.std.proofs.lemmas.List.{get_or-map}
use Rattle.std.proofs.lemmas.Result.{err_from_is_err_and}
use Rattle.classifier.specs.Tables.{missing_refusal, removed}
use Rattle.datapath.specs.Calls.{without_rule}
use Rattle.datapath.specs.Walk.{Forward, table_of}
use Rattle.datapath.proofs.CallLaws.{missing_table, missing_within}
use Rattle.datapath.proofs.Forwards.{forward_either, changed_or_not, good_removed}
use Rattle.datapath.proofs.Nexts.{change_set, same_set}
use Rattle.datapath.specs.TablesLevelLemmas.{lawful_rules}
use Rattle.datapath.proofs.four.Four.remove.Goals as goal

pub returns-in_err-t : goal.returns-in_err-t
returns-in_err-t g c =
    let p = err_from_is_err_and c.from_residual.result c.from_residual.ensures.1 in
    let ts = map g.C.Classifier.rules (vec_items c.args.self.now.classifiers) in
    let e = c.in_err-t.ensures in
    rw (p.1, p.2) (missing_table ts c.args.name.table c.args.name.id _ e, refl)

pub returns-in_err-remove : goal.returns-in_err-remove
returns-in_err-remove g c =
    let p = err_from_is_err_and c.from_residual-in_err-remove.result c.from_residual-in_err-remove.ensures.1 in
    let f = g.C.Classifier.rules in
    let xs = vec_items c.args.self.now.classifiers in
    let ts = map f xs in
    let t = c.in_ok-t.t in
    let at = c.in_ok-t.ensures in
    let lt : t < length xs = omega (arith, at.2, c.args.self.now.four) in
    let here : table_of ts t ≡ f c.index_mut.result.now = get_or-map f xs t c.index_mut.result.now [] lt ∙ ap f (sym c.index_mut.ensures.value) in
    let was : f c.index_mut.result.now ≡ f (get_or xs t c.index_mut.result.now) = ap f c.index_mut.ensures.value in
    let e = c.in_err-remove.ensures in
    let same : map f (set xs t c.remove.new.self) ≡ ts = same_set f xs t c.index_mut.result.now _ lt (e.1 ∙ was) in
    rw (p.1, p.2)
    (missing_within ts c.args.name.table c.args.name.id _ at.0 (ap (λ u. missing_refusal (table_of ts u) c.args.name.id) (sym at.1) ∙ ap (λ rs. missing_refusal rs c.args.name.id) here ∙ e.0), same)

pub returns : goal.returns
unfolding without_rule
returns g c =
    let f = g.C.Classifier.rules in
    let xs = vec_items c.args.self.now.classifiers in
    let ts = map f xs in
    let t = c.in_ok-t.t in
    let at = c.in_ok-t.ensures in
    let lt : t < length xs = omega (arith, at.2, c.args.self.now.four) in
    let here : table_of ts t ≡ f c.index_mut.result.now = get_or-map f xs t c.index_mut.result.now [] lt ∙ ap f (sym c.index_mut.ensures.value) in
    let was : f c.index_mut.result.now ≡ f (get_or xs t c.index_mut.result.now) = ap f c.index_mut.ensures.value in
    let e = c.in_ok-remove.ensures in
    let i = c.args.name.id in
    let new : map f (set xs t c.remove.new.self) ≡ set ts t (removed (table_of ts t) i) = change_set f (λ rs. removed rs i) xs t c.index_mut.result.now _ lt (e.1 ∙ ap (λ rs. removed rs i) was) in (
      missing_within ts c.args.name.table i _ at.0 (ap (λ u. missing_refusal (table_of ts u) i) (sym at.1) ∙ ap (λ rs. missing_refusal rs i) here ∙ e.0),
      new ∙ ap (λ u. set ts u (removed (table_of ts u) i)) at.1,
    )

pub invariant_of-self : goal.invariant_of-self
invariant_of-self g c =
    let f = g.C.Classifier.rules in
    let xs = vec_items c.args.self.now.classifiers in
    let t = c.in_ok-t.t in
    let lt : t < length xs = omega (arith, c.in_ok-t.ensures.2, c.args.self.now.four) in
    let four : length (set xs t c.remove.new.self) ≡ 4 = simp length-set c.args.self.now.four in
    let forward : Forward 0 (map f (set xs t c.remove.new.self)) =
    forward_either f (λ rs. removed rs c.args.name.id) xs t c.index_mut.result.now c.remove.new.self lt c.index_mut.ensures.value
    (changed_or_not _ _ _ _ c.remove.result c.remove.ensures)
    (λ rs h. good_removed (0 + t) rs c.args.name.id h) c.args.self.now.lawful.forward in
    record { four = four; lawful = lawful_rules f g.met.C.Classifier.lawful _ four forward }
