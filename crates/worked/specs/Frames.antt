-- Frames to read.
use Rattle.std.specs.Prelude.{ℕ, List, [], ◌∷◌, ◌++◌, replicate}
use Rattle.packet.specs.Frames.{bytes16}

abbrev pub addresses : List ℕ
addresses = replicate 12 0

-- a frame with this type word, and no more
abbrev pub typed_frame : ℕ → List ℕ
typed_frame type = addresses ++ bytes16 type

-- a tagged frame with this tag control information
abbrev pub tagged_frame : ℕ → List ℕ
tagged_frame tci = addresses ++ bytes16 0x8100 ++ bytes16 tci ++ bytes16 0x88B5

-- UDP from port 53 to port 4660, in IPv4 with a header of 20 bytes: 42 bytes, with this total length and this fragment word
abbrev pub udp_frame : ℕ → ℕ → List ℕ
udp_frame total fragment =
    typed_frame 0x0800 ++ (0x45 ∷ 0 ∷ []) ++ bytes16 total ++ (0 ∷ 0 ∷ []) ++ bytes16 fragment
    ++ (64 ∷ 17 ∷ 0 ∷ 0 ∷ 10 ∷ 0 ∷ 0 ∷ 1 ∷ 10 ∷ 0 ∷ 0 ∷ 2 ∷ []) ++ bytes16 53 ++ bytes16 4660 ++ (0 ∷ 8 ∷ 0 ∷ 0 ∷ [])
