use Rattle.std.proofs.Common.{◌≡◌, ◌&&◌, true, false, eqb, vec_items, Some, None, arith, rules}
use Rattle.std.specs.List.{find, list_any}
use Rattle.classifier.specs.Rules.{clashing}
use Rattle.classifier.proofs.PlaceLaws.{refused_stands, refused_full, refused_clash}
use Rattle.classifier.proofs.store.Store.admit.Goals as goal

pub returns-then-is_standing : goal.returns-then-is_standing
returns-then-is_standing c =
    let xs = vec_items c.args.self.now.rules in
    let e : list_any (λ r. eqb r.id c.args.new.now.id) xs ≡ true = search rules in
    refused_stands xs c.args.new.now c.args.self.now.ok e

pub returns-then-full : goal.returns-then-full
returns-then-full c =
    let xs = vec_items c.args.self.now.rules in
    let e : list_any (λ r. eqb r.id c.args.new.now.id) xs ≡ false = search rules in
    refused_full xs c.args.new.now c.args.self.now.ok e (omega arith)

pub returns-in-Some : goal.returns-in-Some
returns-in-Some c =
    let xs = vec_items c.args.self.now.rules in
    let e : list_any (λ r. eqb r.id c.args.new.now.id) xs ≡ false = search rules in
    let f : find (λ r. eqb r.priority c.args.new.now.priority && clashing r c.args.new.now) xs ≡ Some c.in-Some.rule.now = search rules in
    refused_clash xs c.args.new.now _ c.args.self.now.ok e (omega arith) f

pub returns-in-None : goal.returns-in-None
returns-in-None c =
    let xs = vec_items c.args.self.now.rules in
    let e : list_any (λ r. eqb r.id c.args.new.now.id) xs ≡ false = search rules in
    let f : find (λ r. eqb r.priority c.args.new.now.priority && clashing r c.args.new.now) xs ≡ None = search rules in
    refused_clash xs c.args.new.now _ c.args.self.now.ok e (omega arith) f
