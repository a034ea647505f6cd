use Rattle.std.proofs.Common.{◌++◌, ap, ◌∙◌}
use Rattle.text.specs.Answers.{report_line}
use Rattle.text.proofs.Appends.{then}
use Rattle.text.proofs.answer.report_line.Goals as goal

pub returns : goal.returns
unfolding report_line
returns c =
    let t = then (then (then c.put_start.ensures.items c.put_rule.ensures.items) c.put_both.ensures.items) c.put.ensures.items in
    t.is ∙ ap (λ z. z ++ report_line c.args.place c.args.name.table c.args.name.id c.args.answers.a c.args.answers.b) (c.reserve.ensures.items ∙ c.page.view_is)
