-- The text of an answer, as bytes of ASCII.
use Rattle.std.specs.Prelude.{◌≡◌, ℕ, ◌+◌, ◌*◌, ◌/◌, ◌%◌, cond, List, [], ◌∷◌, ◌++◌, codes, decimal, nat_lt, slice_index}
use Rattle.std.specs.List.{flat_map}

-- what a buffer holds after is what it held before, with a text behind it
pub record Appended (before after text : List ℕ) : Type 0 where
  pub is : after ≡ before ++ text

-- a digit below 16, in lower case
abbrev pub hex_digit : ℕ → ℕ
hex_digit n = cond (nat_lt n 10) (48 + n) (87 + n)

-- a byte as two digits
abbrev pub hex2 : ℕ → List ℕ
hex2 b = hex_digit (b / 16) ∷ hex_digit (b % 16) ∷ []

-- bytes, two digits each
abbrev pub bytes_text : List ℕ → List ℕ
bytes_text xs = flat_map hex2 xs

-- a 16-bit number, by its two bytes, as four digits
abbrev pub hex_text : ℕ → ℕ → List ℕ
hex_text high low = hex2 high ++ hex2 low

-- the low 12 bits of such a number as three digits
abbrev pub flags_text : ℕ → ℕ → List ℕ
flags_text high low = hex_digit (high % 16) ∷ hex2 low

-- a number in decimal, with no leading zero
unfoldable pub decimal_text : ℕ → List ℕ
decimal_text n = decimal n

-- the byte at a place
abbrev pub byte : List ℕ → ℕ → ℕ
byte k i = slice_index k i

-- six bytes with colons between, as 02:00:00:00:00:01
abbrev pub colons_text : ℕ → ℕ → ℕ → ℕ → ℕ → ℕ → List ℕ
colons_text a b c d e f =
    hex2 a ++ codes ":" ++ hex2 b ++ codes ":" ++ hex2 c ++ codes ":" ++ hex2 d ++ codes ":" ++ hex2 e ++ codes ":" ++ hex2 f

-- those that stand from a place on
abbrev pub mac_text : List ℕ → ℕ → List ℕ
mac_text k i =
    colons_text (byte k i) (byte k (i + 1)) (byte k (i + 2)) (byte k (i + 3)) (byte k (i + 4)) (byte k (i + 5))

-- four bytes in decimal with dots between, as 10.0.0.1
abbrev pub dots_text : ℕ → ℕ → ℕ → ℕ → List ℕ
dots_text a b c d = decimal_text a ++ codes "." ++ decimal_text b ++ codes "." ++ decimal_text c ++ codes "." ++ decimal_text d

-- those that stand from a place on
abbrev pub quad_text : List ℕ → ℕ → List ℕ
quad_text k i = dots_text (byte k i) (byte k (i + 1)) (byte k (i + 2)) (byte k (i + 3))

-- a 16-bit number of two bytes, in decimal
abbrev pub word_text : List ℕ → ℕ → List ℕ
word_text k i = decimal_text (byte k i * 256 + byte k (i + 1))

-- the in-port and the Ethernet fields of a key
unfoldable pub link_text : List ℕ → List ℕ
link_text k =
    codes "in_port=" ++ word_text k 0 ++ codes ",dl_dst=" ++ mac_text k 2 ++ codes ",dl_src=" ++ mac_text k 8
    ++ codes ",dl_type=0x" ++ hex_text (byte k 14) (byte k 15) ++ codes ",vlan_tci=0x" ++ hex_text (byte k 16) (byte k 17)

-- the fields of the IPv4 header but for the addresses, and the TCP flags, which have 12 bits
unfoldable pub network_text : List ℕ → List ℕ
network_text k =
    codes ",frag=" ++ decimal_text (byte k 18) ++ codes ",nw_proto=" ++ decimal_text (byte k 19)
    ++ codes ",nw_tos=" ++ decimal_text (byte k 20) ++ codes ",nw_ttl=" ++ decimal_text (byte k 21)
    ++ codes ",tcp_flags=0x" ++ flags_text (byte k 22) (byte k 23)

-- the IPv4 addresses and the transport ports
unfoldable pub address_text : List ℕ → List ℕ
address_text k =
    codes ",nw_src=" ++ quad_text k 24 ++ codes ",nw_dst=" ++ quad_text k 28
    ++ codes ",tp_src=" ++ word_text k 32 ++ codes ",tp_dst=" ++ word_text k 34

-- a key, field by field
unfoldable pub key_text : List ℕ → List ℕ
key_text k = link_text k ++ network_text k ++ address_text k
