use Rattle.std.proofs.Common.{◌≡◌, ap, ◌∙◌}
use Rattle.std.proofs.lemmas.Bool.Decides.{Decides-at}
use Rattle.flow.specs.Masks.{agreeing, overlapping}
use Rattle.flow.proofs.OverlapLaws.{overlapping_decides}
use Rattle.flow.proofs.rows.overlaps.Goals as goal

pub returns : goal.returns
returns c =
    let m = c.args.mask1.now in
    let v = c.args.value1.now in
    let n = c.args.mask2.now in
    let w = c.args.value2.now in
    let e : c.agree.result ≡ overlapping m v n w = c.agree.ensures.test ∙ ap (λ x. agreeing x v w) c.masked.ensures in
    record {
      test = e;
      means = λ p q. Decides-at _ _ e
          (overlapping_decides m v n w (record { long = c.told-value1; bytes = c.fits-value1 }) (record { long = c.told-value2; bytes = c.fits-value2 }) p q);
    }
