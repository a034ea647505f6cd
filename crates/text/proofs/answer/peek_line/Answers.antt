use Rattle.std.proofs.Common.{◌++◌, ap, ◌∙◌}
use Rattle.text.specs.Answers.{peek_line}
use Rattle.text.proofs.Appends.{then}
use Rattle.text.proofs.answer.peek_line.Goals as goal

pub returns : goal.returns
unfolding peek_line
returns c =
    let t = then (then c.put_start.ensures.items c.put_peeked.ensures.items) c.put.ensures.items in
    t.is ∙ ap (λ z. z ++ peek_line c.args.place c.args.answers.a c.args.answers.b c.args.masks.now.a c.args.masks.now.b) (c.reserve.ensures.items ∙ c.page.view_is)
