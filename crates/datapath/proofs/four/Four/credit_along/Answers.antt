use Rattle.std.proofs.Common.{◌≡◌, ℕ, ◌<◌, List, map, length, get_or, take, take_all, set, vec_items, sym, refl, ap, ◌∙◌, subst, arith, length-set}
use Rattle.std.specs.List.{AllByRecursion}
use Rattle.std.proofs.ByRecursion.{All-get_or}
use Rattle.std.proofs.lemmas.List.{take_more, length-map}
use Rattle.classifier.specs.Tables.{credited}
use Rattle.datapath.specs.declared.level.Mark.{Mark}
use Rattle.datapath.specs.Walk.{Forward, credit_along, credit_at}
use Rattle.datapath.proofs.Forwards.{forward_credit}
use Rattle.datapath.proofs.Nexts.{credit_set}
use Rattle.datapath.proofs.WalkLaws.{along_push}
use Rattle.datapath.specs.TablesLevelLemmas.{lawful_rules}
use Rattle.datapath.proofs.four.Four.credit_along.Goals as goal

abbrev no_mark : Mark
no_mark = record { table = 0; id = 0; ports = 0; next = 0 }

pub loop-mark-init : goal.loop-mark-init
unfolding credit_along
loop-mark-init g c = refl

-- each mark of the walk names one of the four tables
low : (xs ys : List Mark) (i : ℕ) → xs ≡ ys → AllByRecursion (λ m. m.table < 4) ys → i < length xs → (get_or xs i no_mark).table < 4
low xs ys i e h l = All-get_or (λ m. m.table < 4) xs i no_mark l (subst (AllByRecursion (λ m. m.table < 4)) (sym e) h)

pub index_mut-requires : goal.index_mut-requires
index_mut-requires g c =
    let h = low c.as_slice-mark-items.result.now _ c.loop-mark.mark-index c.as_slice-mark-items.ensures.value c.requires c.loop-mark-test.true in
    omega (arith, c.loop-mark.self.four)

pub invariant_of-self : goal.invariant_of-self
invariant_of-self g c =
    let f = g.C.Classifier.rules in
    let xs = vec_items c.loop-mark.self.classifiers in
    let m = get_or c.as_slice-mark-items.result.now c.loop-mark.mark-index no_mark in
    let h = low c.as_slice-mark-items.result.now _ c.loop-mark.mark-index c.as_slice-mark-items.ensures.value c.requires c.loop-mark-test.true in
    let here : c.from.result < length xs = omega (arith, c.loop-mark.self.four) in
    let now : map f (set xs c.from.result c.credit.new.self) ≡ credit_at (map f xs) c.from.result m.id c.args.n = credit_set f xs c.from.result c.index_mut.result.now c.credit.new.self m.id c.args.n here (c.credit.ensures ∙ ap (λ x. credited (f x) m.id c.args.n) c.index_mut.ensures.value) in
    let wide : c.from.result < length (map f xs) = simp length-map here in
    let four : length (set xs c.from.result c.credit.new.self) ≡ 4 = simp length-set c.loop-mark.self.four in
    record {
      four = four;
      lawful = lawful_rules f g.met.C.Classifier.lawful _ four (subst (Forward 0) (sym now) (forward_credit (map f xs) c.from.result m.id c.args.n c.loop-mark.self.lawful.forward wide));
    }

pub loop-mark-preserved : goal.loop-mark-preserved
loop-mark-preserved g c =
    let f = g.C.Classifier.rules in
    let xs = vec_items c.loop-mark.self.classifiers in
    let ms = c.as_slice-mark-items.result.now in
    let i = c.loop-mark.mark-index in
    let m = get_or ms i no_mark in
    let h = low ms _ i c.as_slice-mark-items.ensures.value c.requires c.loop-mark-test.true in
    let here : c.from.result < length xs = omega (arith, c.loop-mark.self.four) in
    credit_set f xs c.from.result c.index_mut.result.now c.credit.new.self m.id c.args.n here (c.credit.ensures ∙ ap (λ x. credited (f x) m.id c.args.n) c.index_mut.ensures.value)
    ∙ ap (λ t. credit_at (map f xs) t m.id c.args.n) c.from.ensures
    ∙ ap (λ ts. credit_at ts m.table m.id c.args.n) c.loop-mark.invariant
    ∙ sym (along_push (take i ms) m (map f (vec_items c.args.self.now.classifiers)) c.args.n)
    ∙ ap (λ x. credit_along (map f (vec_items c.args.self.now.classifiers)) x c.args.n) (sym (take_more ms i no_mark c.loop-mark-test.true))

pub returns : goal.returns
returns g c =
    let f = g.C.Classifier.rules in
    let ms = c.as_slice-mark-items.result.now in
    c.loop-mark.invariant
    ∙ ap (λ xs. credit_along (map f (vec_items c.args.self.now.classifiers)) xs c.args.n) (take_all c.loop-mark.mark-index ms c.loop-mark-test.false ∙ c.as_slice-mark-items.ensures.value)
