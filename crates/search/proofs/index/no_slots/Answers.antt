use Rattle.search.proofs.Marks.{empty_zeros}
use Rattle.search.proofs.index.no_slots.Goals as goal

pub returns : goal.returns
returns c = empty_zeros 128
