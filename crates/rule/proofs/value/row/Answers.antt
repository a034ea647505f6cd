use Rattle.std.proofs.Common.{◌≡◌, ℕ, cond, List, [], length, get_or, None, sym, ap, ◌∙◌, arith, eq-eqb}
use Rattle.std.proofs.lemmas.List.{length-set}
use Rattle.numeral.proofs.Pairs.{chunk_is}
use Rattle.rule.specs.Values.{pairs_of, row_of}
use Rattle.rule.proofs.RowLaws.{byte_is, stop, step, done}
use Rattle.rule.proofs.value.row.Goals as goal

whole : (t : List ℕ) → length t ≡ 72 → row_of t ≡ pairs_of t
whole t h = ap (λ b. cond b (pairs_of t) None) (eq-eqb (length t) 72 h)

pub returns-in_err-row : goal.returns-in_err-row
returns-in_err-row c =
    let t = c.args.text.now in
    let q = ap (λ z. get_or z c.loop-i.i []) c.as_chunks.ensures.front ∙ chunk_is t c.loop-i.i (omega arith) in
    c.from_residual.ensures
    ∙ sym (stop t c.loop-i.row c.loop-i.i (omega arith) (c.in_err-row.ensures.value ∙ byte_is t _ c.loop-i.i c.pair.result q c.pair.ensures))
    ∙ c.loop-i.invariant.1
    ∙ sym (whole t c.if-text-ne72.false)

pub loop-i-preserved : goal.loop-i-preserved
loop-i-preserved c =
    let t = c.args.text.now in
    let q = ap (λ z. get_or z c.loop-i.i []) c.as_chunks.ensures.front ∙ chunk_is t c.loop-i.i (omega arith) in (
      length-set c.loop-i.row c.loop-i.i c.in_ok-row.field-0 ∙ c.loop-i.invariant.0,
      step t c.loop-i.row c.loop-i.i c.in_ok-row.field-0 (omega arith) (omega arith) (c.in_ok-row.ensures.value ∙ byte_is t _ c.loop-i.i c.pair.result q c.pair.ensures)
          ∙ c.loop-i.invariant.1,
    )

pub returns : goal.returns
returns c =
    let t = c.args.text.now in
    sym (done t c.loop-i.row c.loop-i.i (omega arith) (omega arith)) ∙ c.loop-i.invariant.1 ∙ sym (whole t c.if-text-ne72.false)
