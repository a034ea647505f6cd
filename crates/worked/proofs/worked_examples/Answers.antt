use Rattle.worked.proofs.Evicting.{evicting_examples}
use Rattle.worked.proofs.Finding.{finding_examples}
use Rattle.worked.proofs.Reading.{reading_examples}
use Rattle.worked.proofs.worked_examples.Goals as goal

pub returns : goal.returns
returns c = record { reading = reading_examples; finding = finding_examples; evicting = evicting_examples }
