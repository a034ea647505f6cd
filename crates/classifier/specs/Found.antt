-- What the search of a tuple says of a rule.
use Rattle.classifier.specs.declared.rule.Rule.{Rule}
use Rattle.classifier.specs.Rules.{named}
use Rattle.classifier.specs.declared.element.Found.{Found}

-- the rule's identity and priority
abbrev pub found_of : Rule → Found
found_of r = record { priority = r.priority; rule = named r }
