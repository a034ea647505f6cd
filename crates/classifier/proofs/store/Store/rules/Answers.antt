use Rattle.std.proofs.Common.{◌≤◌, length, sym, subst, rules}
use Rattle.classifier.specs.KeptLaws.{stored_kept}
use Rattle.classifier.proofs.store.Store.rules.Goals as goal

pub returns : goal.returns
returns c =
    record {
      is = search rules;
      standing = search rules;
      few = subst (λ rs. length rs ≤ 64) (sym c.as_slice.ensures.value) (stored_kept c.args.self.now).few;
    }
