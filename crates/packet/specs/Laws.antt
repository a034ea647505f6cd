-- Laws of reading a frame, above the definitions.
use Rattle.std.specs.Prelude.{◌≡◌, ℕ, ◌+◌, ◌≤◌, true, ◌⊎◌, List, ◌++◌, length, take, drop, IfSome, None, MatchOption, ◌≢◌}
use Rattle.packet.specs.Frames.{Span, bytes16, part, refusal, type_word, network_at, network, total_len, has_ipv4, key_of, ipv4_of, transport_of}

-- two frames are read alike at a port
pub record ReadAlike (port : ℕ) (f g : List ℕ) : Type 0 where
  pub refusals : refusal port f ≡ refusal port g
  pub keys : key_of port f ≡ key_of port g
  pub headers : ipv4_of f ≡ ipv4_of g
  pub transports : transport_of f ≡ transport_of g

-- Padding never matters: bytes behind a frame that is read, and whose IPv4 packet is sound or whose type is another,
-- change neither its key nor its parts, as long as the frame keeps its limit.
abbrev pub PaddingNeverMatters : Type 0
PaddingNeverMatters =
    (port : ℕ) (f padding : List ℕ) → refusal port f ≡ None
    → (has_ipv4 (type_word f) (network f) ≡ true) ⊎ (type_word f ≢ 0x0800)
    → length (f ++ padding) ≤ 9216 → ReadAlike port (f ++ padding) f

-- The in-port is the key's first two bytes and changes nothing else of it.
abbrev pub InPortStandsFirst : Type 0
InPortStandsFirst =
    (port other : ℕ) (f : List ℕ) → (take 2 (key_of port f) ≡ bytes16 port) × (drop 2 (key_of port f) ≡ drop 2 (key_of other f))

-- where the IPv4 packet ends in the frame: at its total length
abbrev pub packet_end : List ℕ → ℕ
packet_end f = network_at f + total_len (network f)

-- a part lies in the frame, and ends at or before the packet's end
pub record Inside (f : List ℕ) (s : Span) : Type 0 where
  pub bytes_are : s.bytes ≡ part f s.offset (length s.bytes)
  pub ends : s.offset + length s.bytes ≤ packet_end f
  pub packet : packet_end f ≤ length f

-- a part begins where the other ends
abbrev pub RightBehind : Span → Span → Type 0
RightBehind t h = t.offset ≡ h.offset + length h.bytes

-- The parts lie inside the frame's packet, the transport part right behind the header.
abbrev pub PartsLieInside : Type 0
PartsLieInside =
    (f : List ℕ) → MatchOption (ipv4_of f) (transport_of f ≡ None)
    (λ h. Inside f h × IfSome (transport_of f) (λ t. Inside f t × RightBehind t h))
