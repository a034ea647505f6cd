use Rattle.std.proofs.Common.{◌++◌, ap, ◌∙◌}
use Rattle.text.specs.Answers.{word_line}
use Rattle.text.proofs.Appends.{then, as_text}
use Rattle.text.proofs.answer.word_line.Goals as goal

pub returns : goal.returns
unfolding word_line
returns c =
    let t = then (then (then (then (then c.put_place.ensures.items c.put.ensures.items) (as_text c.as_bytes.ensures.value c.put-2.ensures.items)) c.put-3.ensures.items) c.put_both.ensures.items) c.put-4.ensures.items in
    t.is ∙ ap (λ z. z ++ word_line c.args.place c.args.word.now c.args.answers.a c.args.answers.b) (c.reserve.ensures.items ∙ c.page.view_is)
