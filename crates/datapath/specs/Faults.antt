-- The numbers and details of the refusals of the tables. A classifier's fault lies whole inside.
use Rattle.classifier.specs.Tables.{Refusal}
use Rattle.classifier.specs.Faults as classifier
use Rattle.datapath.specs.declared.fault.TablesFault.{TablesFault}
use Rattle.datapath.specs.declared.fault.TablesFault.TheVariants.{Table, Outside, PortZero, Next, Within}

-- each fault as a refusal
abbrev pub refusal_of : TablesFault → Refusal
refusal_of (Table table) = (5, table)
refusal_of (Outside byte) = (6, byte)
refusal_of PortZero = (7, 0)
refusal_of (Next next) = (8, next)
refusal_of (Within fault) = classifier.refusal_of fault
