use Rattle.std.proofs.Common.{◌≡◌}
use Rattle.pair.proofs.session.Session.report.Given as goal

abbrev pub invariant-loop-name : goal.invariant-loop-name
invariant-loop-name g l =
    (goal.iterator-loop-name g).can_next l.name-iterator × (goal.iterator-loop-name g).is_finite l.name-iterator
    × (g.L.Level.rules l.self.1.0.a.level ≡ g.L.Level.rules l.fn.self.switches.a.level)
    × (g.M.Level.rules l.self.1.0.b.level ≡ g.M.Level.rules l.fn.self.switches.b.level)
    × (l.self.1.0.a.totals ≡ l.fn.self.switches.a.totals)
    × (l.self.1.0.b.totals ≡ l.fn.self.switches.b.totals)
