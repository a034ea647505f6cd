use Rattle.std.proofs.Common.{◌++◌, ap, ◌∙◌}
use Rattle.text.specs.Lines.{line_text, answer_text}
use Rattle.text.proofs.Appends.{then}
use Rattle.text.proofs.key.key_line.Goals as goal

pub returns : goal.returns
unfolding line_text
returns c =
    let t = then (then (then c.put_place.ensures.items c.put.ensures.items) c.put_answer.ensures.items) c.put-2.ensures.items in
    t.is ∙ ap (λ z. z ++ line_text c.args.place (answer_text c.args.port c.args.frame.now)) (c.reserve.ensures.items ∙ c.page.view_is)
