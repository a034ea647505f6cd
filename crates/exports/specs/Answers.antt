-- What the exported reader answers, and what it writes.
use Rattle.std.specs.Prelude.{ℕ, cond, List, length, Some, None, Option, ◌==◌}
use Rattle.packet.specs.Faults.{Refusal}
use Rattle.packet.specs.Frames.{refusal, key_of}

-- a refusal's number, 0 for a frame that is read
abbrev pub number_of : Option Refusal → ℕ
number_of None = 0
number_of (Some r) = r.0

-- one list for a frame that is read, another for one that is refused
abbrev pub if_read : Option Refusal → (read refused : List ℕ) → List ℕ
if_read None read refused = read
if_read (Some _) read refused = refused

-- the answer for a frame at a port and a buffer for its key: 255 where the buffer is not 36 bytes long
abbrev pub answer_of : ℕ → (f key : List ℕ) → ℕ
answer_of port f key = cond (length key == 36) (number_of (refusal port f)) 255

-- what the buffer then holds: the key of a frame that is read, else what it held
abbrev pub held_after : ℕ → (f key : List ℕ) → List ℕ
held_after port f key = cond (length key == 36) (if_read (refusal port f) (key_of port f) key) key
