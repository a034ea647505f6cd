use Rattle.std.proofs.Common.{◌++◌, ap, ◌∙◌}
use Rattle.text.specs.Answers.{answer_line}
use Rattle.text.proofs.Appends.{then}
use Rattle.text.proofs.answer.answer_line.Goals as goal

pub returns : goal.returns
unfolding answer_line
returns c =
    let t = then (then c.put_start.ensures.items c.put_both.ensures.items) c.put.ensures.items in
    t.is ∙ ap (λ z. z ++ answer_line c.args.place c.args.verb c.args.answers.a c.args.answers.b) (c.reserve.ensures.items ∙ c.page.view_is)
