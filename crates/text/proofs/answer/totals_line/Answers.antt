use Rattle.std.proofs.Common.{◌++◌, ap, ◌∙◌}
use Rattle.text.specs.Answers.{totals_line}
use Rattle.text.proofs.Appends.{then}
use Rattle.text.proofs.answer.totals_line.Goals as goal

pub returns : goal.returns
unfolding totals_line
returns c =
    let t = then (then (then (then (then c.put_start.ensures.items c.put.ensures.items) c.put_counted.ensures.items) c.put-2.ensures.items) c.put_counted-2.ensures.items) c.put-3.ensures.items in
    t.is ∙ ap (λ z. z ++ totals_line c.args.place c.args.totals.a c.args.totals.b) (c.reserve.ensures.items ∙ c.page.view_is)
