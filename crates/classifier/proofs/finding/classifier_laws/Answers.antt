use Rattle.classifier.specs.LawsLemmas.{best_decides}
use Rattle.classifier.proofs.finding.classifier_laws.Goals as goal

pub returns : goal.returns
returns c = best_decides
