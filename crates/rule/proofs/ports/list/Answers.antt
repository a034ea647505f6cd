use Rattle.std.proofs.Common.{◌≡◌, List, [], ◌∷◌, Some, Option, sym, refl, ap, ◌∙◌, lit<}
use Rattle.std.proofs.lemmas.Iterator.{YieldsList}
use Rattle.std.proofs.lemmas.Iterator.Splits.{YieldsList-from_str_split}
use Rattle.rule.specs.Ports.{and_all}
use Rattle.rule.proofs.ports.list.Goals as goal

-- an item that came is the first of those that were to come
first_came : {S A B : Type 0} (steps : S → Option A → S → Type 0) (v : A → B) (s t : S) (x : A) (ys : List B) → YieldsList steps v s ys → steps s (Some x) t → (rest : List B) × YieldsList steps v t rest × (ys ≡ v x ∷ rest)
first_came steps v s t x [] h k = absurd (h.runs x t k)
first_came steps v s t x (y ∷ ys) h k =
    let p = h.runs.1 x t k in (ys, record { runs = p.1 }, ap (λ z. z ∷ ys) (sym p.0))

pub loop-word-init : goal.loop-word-init
loop-word-init c =
    let split = c.split-word-items.ensures in
    rw c.into_iter-word-iterator.ensures.into_iter_gives
    (tt, tt, (_, YieldsList-from_str_split 44 c.args.text.now (lit< tt) split.text split.has_more split.pattern, refl))

pub returns-in_err-set : goal.returns-in_err-set
returns-in_err-set c =
    let words = c.loop-word.invariant.2 in
    let rest = first_came _ _ _ c.next.new.self c.in-Some.word words.0 words.1 c.in-Some.ensures.steps in
    c.from_residual.ensures
    ∙ ap (λ o. and_all o rest.0) c.in_err-set.ensures
    ∙ sym (ap (and_all (Some c.loop-word.set)) rest.2)
    ∙ words.2

pub loop-word-preserved : goal.loop-word-preserved
loop-word-preserved c =
    let words = c.loop-word.invariant.2 in
    let rest = first_came _ _ _ c.next.new.self c.in-Some.word words.0 words.1 c.in-Some.ensures.steps in
    (tt, tt, (rest.0, rest.1, ap (λ o. and_all o rest.0) c.in_ok-set.ensures ∙ sym (ap (and_all (Some c.loop-word.set)) rest.2) ∙ words.2))
