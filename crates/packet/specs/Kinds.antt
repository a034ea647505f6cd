-- The kinds that the code holds as enums: fragments, and the protocols whose headers have ports.
use Rattle.std.specs.Prelude.{ℕ, List, cond, Some, None, Option, ◌==◌}
use Rattle.packet.specs.declared.ipv4.Fragment.{Fragment}
use Rattle.packet.specs.declared.ipv4.Fragment.TheVariants.{Whole, First, Later}
use Rattle.packet.specs.declared.transport.Transport.{Transport}
use Rattle.packet.specs.declared.transport.Transport.TheVariants.{Tcp, Udp}
use Rattle.packet.specs.Frames.{has_transport, transport}

-- a fragment's number in the key
abbrev pub fragment_number : Fragment → ℕ
fragment_number Whole = 0
fragment_number First = 1
fragment_number Later = 3

-- the transport bytes, unless the packet is a later fragment
abbrev pub transport_bytes : List ℕ → Option (List ℕ)
transport_bytes n = cond (has_transport n) (Some (transport n)) None

-- the protocol of a number, if its header has ports
abbrev pub with_ports : ℕ → Option Transport
with_ports p = cond (p == 6) (Some Tcp) (cond (p == 17) (Some Udp) None)

-- how many bytes a header needs
abbrev pub header_bytes : Transport → ℕ
header_bytes Tcp = 20
header_bytes Udp = 8
