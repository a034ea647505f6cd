use Rattle.packet.proofs.Inside.{in_port_stands_first, parts_lie_inside}
use Rattle.packet.proofs.Padding.{padding_never_matters}
use Rattle.packet.proofs.laws.reading_laws.Goals as goal

pub returns : goal.returns
returns c = record { padding = padding_never_matters; port = in_port_stands_first; inside = parts_lie_inside }
