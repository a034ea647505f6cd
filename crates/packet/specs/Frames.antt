-- What the bytes of a frame say, over the list of its bytes: Ethernet II, one 802.1Q tag, IPv4, TCP and UDP.
-- A number wider than a byte lies most significant byte first.
use Rattle.std.specs.Prelude.{ℕ, ◌+◌, ◌-◌, ◌*◌, ◌/◌, ◌%◌, Bool, cond, not, ◌&&◌, ◌||◌, List, [], ◌∷◌, ◌++◌, length, take, drop, replicate, Some, None, Option, ◌==◌, bit_or, nat_le, nat_lt, slice_index}
use Rattle.std.specs.List.{flat_map}
use Rattle.packet.specs.Faults.{Refusal}

-- the byte at a place
abbrev pub byte : List ℕ → ℕ → ℕ
byte f i = slice_index f i

-- the 16-bit number at a place
abbrev pub word : List ℕ → ℕ → ℕ
word f i = byte f i * 256 + byte f (i + 1)

-- n bytes from a place on
abbrev pub part : List ℕ → ℕ → ℕ → List ℕ
part f from n = take n (drop from f)

-- the two bytes of a 16-bit number
abbrev pub bytes16 : ℕ → List ℕ
bytes16 x = x / 256 ∷ x % 256 ∷ []

-- Ethernet II and 802.1Q ----------------------------------------------------------------------------------

-- a tag stands behind the addresses
abbrev pub tagged : List ℕ → Bool
tagged f = word f 12 == 0x8100

-- the tag's control information
abbrev pub tag_of : List ℕ → Option ℕ
tag_of f = cond (tagged f) (Some (word f 14)) None

-- the type word, which stands behind the tag if there is one; only one tag is read
abbrev pub type_word : List ℕ → ℕ
type_word f = cond (tagged f) (word f 16) (word f 12)

-- the key's type: a word below 0x0600 is a length, and no type
abbrev pub type_field : ℕ → ℕ
type_field t = cond (nat_lt t 0x0600) 0x05FF t

-- the key's VLAN: the tag's control information with bit 12 set, 0 without a tag
abbrev pub vlan_field : List ℕ → ℕ
vlan_field f = cond (tagged f) (bit_or (word f 14) 0x1000) 0

-- where the network bytes begin: behind the type word
abbrev pub network_at : List ℕ → ℕ
network_at f = cond (tagged f) 18 14

-- the network bytes run to the frame's end
abbrev pub network : List ℕ → List ℕ
network f = drop (network_at f) f

-- the first reason for which a frame at an in-port is not read
abbrev pub refusal : ℕ → List ℕ → Option Refusal
refusal port f =
    cond (nat_lt port 1 || nat_lt 63 port) (Some (1, port))
    (cond (nat_lt (length f) 14) (Some (2, length f))
    (cond (nat_lt 9216 (length f)) (Some (3, length f))
    (cond (tagged f && nat_lt (length f) 18) (Some (4, length f)) None)))

-- IPv4, over the network bytes -----------------------------------------------------------------------------

-- the header's length and the packet's length, as the header says
abbrev pub header_len : List ℕ → ℕ
header_len n = byte n 0 % 16 * 4

abbrev pub total_len : List ℕ → ℕ
total_len n = word n 2

-- the header is whole, of version 4, and its two lengths fit the bytes that there are
abbrev pub sound_ipv4 : List ℕ → Bool
sound_ipv4 n =
    nat_le 20 (length n) && (byte n 0 / 16 == 4
    && (nat_le 20 (header_len n) && (nat_le (header_len n) (total_len n) && nat_le (total_len n) (length n))))

-- the frame has a network part
abbrev pub has_ipv4 : ℕ → List ℕ → Bool
has_ipv4 type n = type == 0x0800 && sound_ipv4 n

-- 3 for a later fragment, whose offset (the low 13 bits) is above 0; 1 for a first one, with bit 0x2000; else 0
abbrev pub fragment : List ℕ → ℕ
fragment n = cond (nat_lt 0 (word n 6 % 0x2000)) 3 (cond (word n 6 / 0x2000 % 2 == 1) 1 0)

abbrev pub protocol : List ℕ → ℕ
protocol n = byte n 9

-- a later fragment has no transport part
abbrev pub has_transport : List ℕ → Bool
has_transport n = not (fragment n == 3)

-- the transport bytes run from the header's end to the total length
abbrev pub transport : List ℕ → List ℕ
transport n = cond (has_transport n) (part n (header_len n) (total_len n - header_len n)) []

-- TCP and UDP, over the protocol and the transport bytes ---------------------------------------------------------

-- TCP's header of 20 bytes is there, or UDP's of 8
abbrev pub has_tcp : ℕ → List ℕ → Bool
has_tcp proto t = proto == 6 && nat_le 20 (length t)

abbrev pub has_udp : ℕ → List ℕ → Bool
has_udp proto t = proto == 17 && nat_le 8 (length t)

-- the low 12 bits of TCP's bytes 12 and 13
abbrev pub flags_field : ℕ → List ℕ → List ℕ
flags_field proto t = cond (has_tcp proto t) (bytes16 (word t 12 % 0x1000)) (replicate 2 0)

-- the source port and the destination port
abbrev pub port_fields : ℕ → List ℕ → List ℕ
port_fields proto t = cond (has_tcp proto t || has_udp proto t) (part t 0 4) (replicate 4 0)

-- The key ------------------------------------------------------------------------------------------------------

-- the last 18 bytes: fragment, protocol, TOS, TTL, TCP flags, addresses, ports
abbrev pub ipv4_fields : List ℕ → List ℕ
ipv4_fields n =
    flat_map (λ x. x)
    ((fragment n ∷ []) ∷ (protocol n ∷ []) ∷ (byte n 1 ∷ []) ∷ (byte n 8 ∷ []) ∷ flags_field (protocol n) (transport n)
    ∷ part n 12 4 ∷ part n 16 4 ∷ port_fields (protocol n) (transport n) ∷ [])

-- the same, zero without a network part
abbrev pub network_fields : ℕ → List ℕ → List ℕ
network_fields type n = cond (has_ipv4 type n) (ipv4_fields n) (replicate 18 0)

-- the first 18 bytes: in-port, destination, source, type, VLAN
abbrev pub link_layout : (port : ℕ) (destination source : List ℕ) (type vlan : ℕ) → List ℕ
link_layout port destination source type vlan =
    flat_map (λ x. x) (bytes16 port ∷ destination ∷ source ∷ bytes16 (type_field type) ∷ bytes16 vlan ∷ [])

-- the 36 bytes of the key, one field behind the other
abbrev pub key_layout : (port : ℕ) (destination source : List ℕ) (type vlan : ℕ) (n : List ℕ) → List ℕ
key_layout port destination source type vlan n = link_layout port destination source type vlan ++ network_fields type n

-- the key of a frame that came in at a port
unfoldable pub key_of : ℕ → List ℕ → List ℕ
key_of port f = key_layout port (part f 0 6) (part f 6 6) (type_word f) (vlan_field f) (network f)

-- The parts ----------------------------------------------------------------------------------------------------

-- a part of the frame: where it begins, and its bytes
pub record Span : Type 0 where
  pub offset : ℕ
  pub bytes : List ℕ

-- the IPv4 header, in network bytes that begin at a place of the frame
abbrev pub header_part : (type at : ℕ) (n : List ℕ) → Option Span
header_part type at n = cond (has_ipv4 type n) (Some (record { offset = at; bytes = part n 0 (header_len n) })) None

-- the transport part
abbrev pub transport_part : (type at : ℕ) (n : List ℕ) → Option Span
transport_part type at n =
    cond (has_ipv4 type n && has_transport n) (Some (record { offset = at + header_len n; bytes = transport n })) None

-- both, of a frame
unfoldable pub ipv4_of : List ℕ → Option Span
ipv4_of f = header_part (type_word f) (network_at f) (network f)

unfoldable pub transport_of : List ℕ → Option Span
transport_of f = transport_part (type_word f) (network_at f) (network f)
