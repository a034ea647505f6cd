use Rattle.std.proofs.Common.{◌≡◌, ◌-◌, length, vec_items}
use Rattle.datapath.specs.Crossed.{marks_of}
use Rattle.datapath.proofs.Tours.{Touring}
use Rattle.datapath.proofs.four.Four.walk.Given as goal

abbrev pub invariant-loop : goal.invariant-loop
invariant-loop g l =
    record {
      counted : length (marks_of l.walk.crossed) ≡ l.counter;
      touring : Touring g.C.Classifier.gives g.C.Classifier.rules (vec_items l.self.classifiers) l.key (4 - l.counter) l.table l.walk.ports l.walk.mask (marks_of l.walk.crossed);
    }
