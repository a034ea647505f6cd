use Rattle.std.proofs.Common.{◌++◌, ap, ◌∙◌}
use Rattle.text.specs.Answers.{frame_line}
use Rattle.text.proofs.Appends.{then}
use Rattle.text.proofs.answer.frame_line.Goals as goal

pub returns : goal.returns
unfolding frame_line
returns c =
    let t = then (then c.put_start.ensures.items c.put_forwarded.ensures.items) c.put.ensures.items in
    t.is ∙ ap (λ z. z ++ frame_line c.args.place c.args.answers.a c.args.answers.b c.args.depths.a c.args.depths.b) (c.reserve.ensures.items ∙ c.page.view_is)
