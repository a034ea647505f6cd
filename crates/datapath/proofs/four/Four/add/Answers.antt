use Rattle.std.proofs.Common.{◌≡◌, ℕ, ◌+◌, ◌<◌, true, [], map, length, get_or, set, vec_items, sym, refl, ap, ◌∙◌, subst, ap₂, arith, length-set}
use Rattle.std.proofs.lemmas.List.{get_or-map}
use Rattle.std.proofs.lemmas.Result.{err_from_is_err_and}
use Rattle.classifier.specs.Rules.{new_rule}
use Rattle.classifier.specs.Tables.{add_refusal, added}
use Rattle.datapath.specs.Calls.{rule_of, with_rule}
use Rattle.datapath.specs.Walk.{Forward, table_of, good_next}
use Rattle.datapath.proofs.CallLaws.{add_table, add_outside, record_action, add_action, add_within, action_good}
use Rattle.datapath.proofs.Forwards.{forward_either, changed_or_not, good_added}
use Rattle.datapath.proofs.Nexts.{change_set, same_set}
use Rattle.datapath.specs.TablesLevelLemmas.{lawful_rules}
use Rattle.datapath.proofs.four.Four.add.Goals as goal

zero_add_back : (t : ℕ) → t ≡ 0 + t
zero_add_back t = omega arith

pub returns-in_err-t : goal.returns-in_err-t
returns-in_err-t g c =
    let p = err_from_is_err_and c.from_residual.result c.from_residual.ensures.1 in
    let ts = map g.C.Classifier.rules (vec_items c.args.self.now.classifiers) in
    rw (p.1, p.2) (add_table ts c.args.rule.now _ c.in_err-t.ensures, refl)

pub returns-in_err-key : goal.returns-in_err-key
returns-in_err-key g c =
    let p = err_from_is_err_and c.from_residual-in_err-key.result c.from_residual-in_err-key.ensures.1 in
    let ts = map g.C.Classifier.rules (vec_items c.args.self.now.classifiers) in
    let at = c.in_ok-t.ensures in
    rw (p.1, p.2) (add_outside ts c.args.rule.now _ at.0 c.in_err-key.ensures, refl)

pub returns-in_err-check_action : goal.returns-in_err-check_action
returns-in_err-check_action g c =
    let p = err_from_is_err_and c.from_residual-in_err-check_action.result c.from_residual-in_err-check_action.ensures.1 in
    let ts = map g.C.Classifier.rules (vec_items c.args.self.now.classifiers) in
    let r = c.args.rule.now in
    let at = c.in_ok-t.ensures in
    let key = c.in_ok-key.ensures in
    rw (p.1, p.2) (add_action ts r _ (record_action ts r _ at.0 key.0 c.in_err-check_action.ensures), refl)

pub returns-in_err-add : goal.returns-in_err-add
returns-in_err-add g c =
    let p = err_from_is_err_and c.from_residual-in_err-add.result c.from_residual-in_err-add.ensures.1 in
    let r = c.args.rule.now in
    let f = g.C.Classifier.rules in
    let xs = vec_items c.args.self.now.classifiers in
    let ts = map f xs in
    let t = c.in_ok-t.t in
    let at = c.in_ok-t.ensures in
    let lt : t < length xs = omega (arith, at.2, c.args.self.now.four) in
    let here : table_of ts t ≡ f c.index_mut.result.now = get_or-map f xs t c.index_mut.result.now [] lt ∙ ap f (sym c.index_mut.ensures.value) in
    let was : f c.index_mut.result.now ≡ f (get_or xs t c.index_mut.result.now) = ap f c.index_mut.ensures.value in
    let key = c.in_ok-key.ensures in
    let e = c.in_err-add.ensures in
    let is : rule_of r ≡ new_rule r.id r.priority c.in_ok-key.key.mask c.in_ok-key.key.value r.ports r.next = ap₂ (λ m v. new_rule r.id r.priority m v r.ports r.next) (sym key.1) (sym key.2) in
    let asks = ap (λ u. add_refusal (table_of ts u) (rule_of r)) (sym at.1) ∙ ap₂ add_refusal here is in
    let fine = record_action ts r _ at.0 key.0 c.in_ok-check_action.ensures in
    let same : map f (set xs t c.add.new.self) ≡ ts = same_set f xs t c.index_mut.result.now _ lt (e.1 ∙ was) in
    rw (p.1, p.2) (add_within ts r _ fine (asks ∙ e.0), same)

pub returns : goal.returns
unfolding with_rule
returns g c =
    let r = c.args.rule.now in
    let f = g.C.Classifier.rules in
    let xs = vec_items c.args.self.now.classifiers in
    let ts = map f xs in
    let t = c.in_ok-t.t in
    let at = c.in_ok-t.ensures in
    let lt : t < length xs = omega (arith, at.2, c.args.self.now.four) in
    let here : table_of ts t ≡ f c.index_mut.result.now = get_or-map f xs t c.index_mut.result.now [] lt ∙ ap f (sym c.index_mut.ensures.value) in
    let was : f c.index_mut.result.now ≡ f (get_or xs t c.index_mut.result.now) = ap f c.index_mut.ensures.value in
    let key = c.in_ok-key.ensures in
    let e = c.in_ok-add.ensures in
    let is : rule_of r ≡ new_rule r.id r.priority c.in_ok-key.key.mask c.in_ok-key.key.value r.ports r.next = ap₂ (λ m v. new_rule r.id r.priority m v r.ports r.next) (sym key.1) (sym key.2) in
    let asks = ap (λ u. add_refusal (table_of ts u) (rule_of r)) (sym at.1) ∙ ap₂ add_refusal here is in
    let fine = record_action ts r _ at.0 key.0 c.in_ok-check_action.ensures in
    let new : map f (set xs t c.add.new.self) ≡ set ts t (added (table_of ts t) (rule_of r)) = change_set f (λ rs. added rs (rule_of r)) xs t c.index_mut.result.now _ lt (e.1 ∙ ap₂ added was (sym is)) in
    let good : good_next (0 + t) r.next ≡ true = subst (λ u. good_next u r.next ≡ true) (sym at.1 ∙ zero_add_back t) (action_good r.table r.ports r.next c.in_ok-check_action.ensures) in
    (add_within ts r _ fine (asks ∙ e.0), new ∙ ap (λ u. set ts u (added (table_of ts u) (rule_of r))) at.1)

pub invariant_of-self : goal.invariant_of-self
invariant_of-self g c =
    let r = c.args.rule.now in
    let f = g.C.Classifier.rules in
    let xs = vec_items c.args.self.now.classifiers in
    let t = c.in_ok-t.t in
    let at = c.in_ok-t.ensures in
    let lt : t < length xs = omega (arith, at.2, c.args.self.now.four) in
    let good : good_next (0 + t) r.next ≡ true = subst (λ u. good_next u r.next ≡ true) (sym at.1 ∙ zero_add_back t) (action_good r.table r.ports r.next c.in_ok-check_action.ensures) in
    let four : length (set xs t c.add.new.self) ≡ 4 = simp length-set c.args.self.now.four in
    let forward : Forward 0 (map f (set xs t c.add.new.self)) =
    forward_either f (λ rs. added rs (new_rule r.id r.priority c.in_ok-key.key.mask c.in_ok-key.key.value r.ports r.next)) xs t c.index_mut.result.now c.add.new.self lt c.index_mut.ensures.value
    (changed_or_not _ _ _ _ c.add.result c.add.ensures)
    (λ rs h. good_added (0 + t) rs (new_rule r.id r.priority c.in_ok-key.key.mask c.in_ok-key.key.value r.ports r.next) good h) c.args.self.now.lawful.forward in
    record { four = four; lawful = lawful_rules f g.met.C.Classifier.lawful _ four forward }
