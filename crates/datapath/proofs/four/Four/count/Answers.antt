use Rattle.std.proofs.Common.{◌≡◌, ◌<◌, [], map, length, vec_items, sym, ap, ◌∙◌, arith}
use Rattle.std.proofs.lemmas.List.{get_or-map}
use Rattle.std.proofs.lemmas.Result.{err_from_is_err_and}
use Rattle.classifier.specs.Tables.{missing_refusal, count_of}
use Rattle.datapath.specs.Calls.{rule_count}
use Rattle.datapath.specs.Walk.{table_of}
use Rattle.datapath.proofs.CallLaws.{missing_table, missing_within}
use Rattle.datapath.proofs.four.Four.count.Goals as goal

pub returns-in_err-t : goal.returns-in_err-t
returns-in_err-t g c =
    let p = err_from_is_err_and c.from_residual.result c.from_residual.ensures.1 in
    let ts = map g.C.Classifier.rules (vec_items c.args.self.now.classifiers) in
    rw (p.1, p.2) (missing_table ts c.args.name.table c.args.name.id _ c.in_err-t.ensures)

pub returns-in_err-count : goal.returns-in_err-count
returns-in_err-count g c =
    let p = err_from_is_err_and c.from_residual-in_err-count.result c.from_residual-in_err-count.ensures.1 in
    let f = g.C.Classifier.rules in
    let xs = vec_items c.args.self.now.classifiers in
    let ts = map f xs in
    let t = c.in_ok-t.t in
    let at = c.in_ok-t.ensures in
    let lt : t < length xs = omega (arith, at.2, c.args.self.now.four) in
    let here : table_of ts t ≡ f c.index.result.now = get_or-map f xs t c.index.result.now [] lt ∙ ap f (sym c.index.ensures) in
    rw (p.1, p.2)
    (missing_within ts c.args.name.table c.args.name.id _ at.0 (ap (λ u. missing_refusal (table_of ts u) c.args.name.id) (sym at.1) ∙ ap (λ rs. missing_refusal rs c.args.name.id) here ∙ c.in_err-count.ensures))

pub returns : goal.returns
unfolding rule_count
returns g c =
    let f = g.C.Classifier.rules in
    let xs = vec_items c.args.self.now.classifiers in
    let ts = map f xs in
    let t = c.in_ok-t.t in
    let at = c.in_ok-t.ensures in
    let lt : t < length xs = omega (arith, at.2, c.args.self.now.four) in
    let here : table_of ts t ≡ f c.index.result.now = get_or-map f xs t c.index.result.now [] lt ∙ ap f (sym c.index.ensures) in
    let e = c.in_ok-count.ensures in
    let i = c.args.name.id in (
      missing_within ts c.args.name.table i _ at.0 (ap (λ u. missing_refusal (table_of ts u) i) (sym at.1) ∙ ap (λ rs. missing_refusal rs i) here ∙ e.0),
      e.1 ∙ ap (λ rs. count_of rs i) (sym here) ∙ ap (λ u. count_of (table_of ts u) i) at.1,
    )
