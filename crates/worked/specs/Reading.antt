-- Examples of reading a frame.
use Rattle.std.specs.Prelude.{◌≡◌, ℕ, false, List, [], ◌∷◌, ◌++◌, length, take, replicate, Some, None}
use Rattle.packet.specs.Frames.{part, bytes16, tagged, refusal, key_of, ipv4_of, transport_of}
use Rattle.worked.specs.Frames.{typed_frame, tagged_frame, udp_frame}

-- a field of the key of a frame that came in at port 1, by its place and its number of bytes
abbrev pub field : List ℕ → ℕ → ℕ → List ℕ
field f from n = part (key_of 1 f) from n

abbrev pub type_at : List ℕ → List ℕ
type_at f = field f 14 2

abbrev pub vlan_at : List ℕ → List ℕ
vlan_at f = field f 16 2

abbrev pub fragment_at : List ℕ → List ℕ
fragment_at f = field f 18 1

abbrev pub ports_at : List ℕ → List ℕ
ports_at f = field f 32 4

pub record ReadingExamples : Type 0 where
  -- 13 bytes from port 1 are refused; 14 untagged bytes are read
  pub short : (f : List ℕ) → length f ≡ 13 → refusal 1 f ≡ Some (2, 13)
  pub shortest : (f : List ℕ) → length f ≡ 14 → tagged f ≡ false → refusal 1 f ≡ None
  -- the VLAN is the tag control information with bit 12 set
  pub vlan : vlan_at (tagged_frame 0x6064) ≡ bytes16 0x7064
  pub vlan_zero : vlan_at (tagged_frame 0) ≡ bytes16 0x1000
  -- a type word below 0x0600 is a length
  pub length_word : type_at (typed_frame 0x05DC) ≡ bytes16 0x05FF
  pub first_type : type_at (typed_frame 0x0600) ≡ bytes16 0x0600
  -- don't-fragment is whole; more-fragments at offset 0 is a first fragment; an offset is a later one
  pub whole : fragment_at (udp_frame 28 0x4000) ≡ 0 ∷ []
  pub first : fragment_at (udp_frame 28 0x2000) ≡ 1 ∷ []
  pub middle : fragment_at (udp_frame 28 0x2001) ≡ 3 ∷ []
  pub last : fragment_at (udp_frame 28 0x0001) ≡ 3 ∷ []
  -- 8 bytes of UDP have ports; 7 have none
  pub ports : ports_at (udp_frame 28 0) ≡ bytes16 53 ++ bytes16 4660
  pub no_ports : ports_at (udp_frame 27 0) ≡ replicate 4 0
  -- IPv4 cut at 33 bytes has no network part
  pub cut_key : field (take 33 (udp_frame 28 0)) 18 18 ≡ replicate 18 0
  pub cut_header : ipv4_of (take 33 (udp_frame 28 0)) ≡ None
  pub cut_transport : transport_of (take 33 (udp_frame 28 0)) ≡ None
