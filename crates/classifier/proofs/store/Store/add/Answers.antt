use Rattle.std.proofs.Common.{◌<◌, length, vec_items, sym, ap, ◌∙◌, rules}
use Rattle.classifier.specs.Tables.{add_refusal}
use Rattle.classifier.specs.Kept.{standing_rules}
use Rattle.classifier.proofs.PlaceLaws.{room_left}
use Rattle.classifier.proofs.store.Store.add.Goals as goal

pub returns : goal.returns
returns c =
    let room : length (vec_items c.args.self.now.rules) < 64 = room_left _ c.fresh-rule.result c.args.self.now.ok c.in_ok-admit.ensures in (
      ap (add_refusal (standing_rules c.args.self.now)) (sym c.fresh-rule.ensures.is) ∙ c.in_ok-admit.ensures,
      search rules,
    )
