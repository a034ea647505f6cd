-- The numbers and details of the refusals of a classifier.
use Rattle.classifier.specs.declared.fault.ClassifierFault.{ClassifierFault}
use Rattle.classifier.specs.declared.fault.ClassifierFault.TheVariants.{Stands, Full, Overlaps, Missing}
use Rattle.classifier.specs.Tables.{Refusal}

-- each fault as a refusal
abbrev pub refusal_of : ClassifierFault → Refusal
refusal_of (Stands id) = (9, id)
refusal_of Full = (10, 64)
refusal_of (Overlaps id) = (11, id)
refusal_of (Missing id) = (12, id)
