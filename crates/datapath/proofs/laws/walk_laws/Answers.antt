use Rattle.datapath.proofs.WalkLaws.{walk_laws}
use Rattle.datapath.proofs.laws.walk_laws.Goals as goal

pub returns : goal.returns
returns c = walk_laws
