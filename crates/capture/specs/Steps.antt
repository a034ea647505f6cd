-- Reading a capture, a record at a time: what a step leaves, and where it says that it stopped.
use Rattle.std.specs.Prelude.{◌≡◌, ℕ, ◌+◌, ◌-◌, ◌^◌, ◌<◌, ◌≤◌, min, Some, None, Ok, Err, vec_len, Option, Result}
use Rattle.capture.specs.declared.reader.Capture.{Capture}
use Rattle.capture.specs.declared.reader.CaptureFault.{CaptureFault}
use Rattle.capture.specs.declared.reader.CaptureFault.TheVariants.{Memory, Read, ShortHeader, Header, CutHeader, TooLong, CutFrame}

-- a capture whose file header was read: no record yet, the first begins at byte 24, and there is room for the longest
pub record Begins (c : Capture) : Type 0 where
  pub records : c.records ≡ 0
  pub at : c.at ≡ 24
  pub room : vec_len c.buffer ≡ 262144

-- a file header that is cut, or refused, or could not be read at byte 0
abbrev pub Opens : Result Capture CaptureFault → Type 0
Opens (Ok c) = Begins c
Opens (Err Memory) = Unit {0}
Opens (Err (Read e at)) = at ≡ 0
Opens (Err (ShortHeader got)) = got < 24
Opens (Err (Header e)) = Unit {0}
Opens (Err (CutHeader k at got)) = ⊥
Opens (Err (TooLong k at captured)) = ⊥
Opens (Err (CutFrame k at captured got)) = ⊥

-- a sum of 64 bits that stops at the largest number
abbrev pub up_to : ℕ → ℕ → ℕ
up_to a b = min (a + b) (2 ^ 64 - 1)

-- the number of the next record
abbrev pub next_record : Capture → ℕ
next_record c = up_to c.records 1

-- what every step leaves as it was
pub record Keeps (c d : Capture) : Type 0 where
  pub order : d.order ≡ c.order
  pub room : vec_len d.buffer ≡ vec_len c.buffer

-- a frame of so many bytes was read: it is counted, and the next record begins behind its header of 16 bytes and the frame
pub record Moves (c d : Capture) (len : ℕ) : Type 0 where
  pub keeps : Keeps c d
  pub records : d.records ≡ next_record c
  pub at : d.at ≡ up_to (up_to c.at 16) len
  pub fits : len ≤ vec_len d.buffer

-- no record was read, and the place stays
pub record Stays (c d : Capture) : Type 0 where
  pub keeps : Keeps c d
  pub records : d.records ≡ c.records
  pub at : d.at ≡ c.at

-- a fault names the record and where it begins, and a number that is a fault
abbrev pub Tells : Capture → CaptureFault → Type 0
Tells c Memory = ⊥
Tells c (Read e at) = at ≡ c.at
Tells c (ShortHeader got) = ⊥
Tells c (Header e) = ⊥
Tells c (CutHeader k at got) = (k ≡ next_record c) × (at ≡ c.at) × (0 < got) × (got < 16)
Tells c (TooLong k at captured) = (k ≡ next_record c) × (at ≡ c.at) × (vec_len c.buffer < captured)
Tells c (CutFrame k at captured got) = (k ≡ next_record c) × (at ≡ c.at) × (got < captured)

-- what reading a frame leaves, and its length
abbrev pub Steps : Capture → Capture → Result (Option ℕ) CaptureFault → Type 0
Steps c d (Ok (Some len)) = Moves c d len
Steps c d (Ok None) = Stays c d
Steps c d (Err e) = Stays c d × Tells c e
