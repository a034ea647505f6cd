use Rattle.std.proofs.Common.{take}
use Rattle.tuple_space.specs.Indexes.{IndexedRules}
use Rattle.tuple_space.proofs.scan.index_of.Given as goal

abbrev pub invariant-loop-i : goal.invariant-loop-i
invariant-loop-i l = IndexedRules (take l.i l.rules) l.index.buckets
