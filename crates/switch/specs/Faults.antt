-- The numbers and details of the refusals of a switch. A frame's fault and the tables' fault lie whole inside.
use Rattle.classifier.specs.Tables.{Refusal}
use Rattle.packet.specs.Faults as frames
use Rattle.datapath.specs.Faults as tables
use Rattle.switch.specs.declared.fault.SwitchFault.{SwitchFault}
use Rattle.switch.specs.declared.fault.SwitchFault.TheVariants.{Frame, Tables}

-- each fault as a refusal
abbrev pub refusal_of : SwitchFault → Refusal
refusal_of (Frame fault) = frames.refusal_of fault
refusal_of (Tables fault) = tables.refusal_of fault
