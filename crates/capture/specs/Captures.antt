-- The headers of a classic packet capture, over their bytes.
use Rattle.std.specs.Prelude.{ℕ, ◌+◌, ◌*◌, Bool, cond, ◌||◌, List, reverse, Ok, Err, Result, ◌==◌, slice_index}
use Rattle.capture.specs.declared.header.Order.{Order}
use Rattle.capture.specs.declared.header.Order.TheVariants.{Big, Little}
use Rattle.capture.specs.declared.header.HeaderFault.{HeaderFault}
use Rattle.capture.specs.declared.header.HeaderFault.TheVariants.{Pcapng, Magic, Version, LinkType}

-- the bytes of a number, the most significant first
abbrev pub big_first : Order → List ℕ → List ℕ
big_first Big bytes = bytes
big_first Little bytes = reverse bytes

-- the 16-bit number at a place
abbrev pub word_at : Order → List ℕ → ℕ → ℕ
word_at Big h i = slice_index h i * 256 + slice_index h (i + 1)
word_at Little h i = slice_index h (i + 1) * 256 + slice_index h i

-- the 32-bit number at a place
abbrev pub number_at : Order → List ℕ → ℕ → ℕ
number_at Big h i = word_at Big h i * 65536 + word_at Big h (i + 2)
number_at Little h i = word_at Little h (i + 2) * 65536 + word_at Little h i

-- a capture's first number, in its own byte order: its times are in microseconds, or in nanoseconds
abbrev pub is_magic : ℕ → Bool
is_magic n = n == 0xa1b2c3d4 || n == 0xa1b23c4d

-- the byte order that the first number tells
abbrev pub order_by_magic : List ℕ → Result Order HeaderFault
order_by_magic h =
    cond (is_magic (number_at Big h 0)) (Ok Big)
    (cond (is_magic (number_at Little h 0)) (Ok Little)
    (cond (number_at Big h 0 == 0x0a0d0d0a) (Err Pcapng) (Err (Magic (number_at Big h 0)))))

-- the major version, at 4, is 2, and the link type, at 20, is 1, Ethernet
abbrev pub checked_header : List ℕ → Result Order HeaderFault → Result Order HeaderFault
checked_header h (Err e) = Err e
checked_header h (Ok o) =
    cond (word_at o h 4 == 2)
    (cond (number_at o h 20 == 1) (Ok o) (Err (LinkType (number_at o h 20))))
    (Err (Version (word_at o h 4)))

-- the byte order of a capture, by the 24 bytes of its file header
abbrev pub order_of : List ℕ → Result Order HeaderFault
order_of h = checked_header h (order_by_magic h)

-- how many bytes of a frame follow, by the 16 bytes of a record's header
abbrev pub captured_of : Order → List ℕ → ℕ
captured_of o h = number_at o h 8
