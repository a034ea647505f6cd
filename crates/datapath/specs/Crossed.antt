-- The rules that a walk has crossed.
use Rattle.std.specs.Prelude.{List, take}
use Rattle.datapath.specs.declared.crossed.Crossed.{Crossed}
use Rattle.datapath.specs.declared.level.Mark.{Mark}

-- the marks, in order
abbrev pub marks_of : Crossed → List Mark
marks_of c = take c.len c.marks
