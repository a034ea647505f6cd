-- Reading a record: what it shows, and what the capture is once it is let go.
use Rattle.std.specs.Prelude.{◌≡◌, ◌≤◌, length, take, vec_len, ⊤, Some, None, Ok, Err, Option, Result}
use Rattle.std.specs.Borrow.{Fml, MutBor, follows_so}
use mathlib.Core.Option.{none}
use Rattle.capture.specs.declared.reader.Capture.{Capture}
use Rattle.capture.specs.contracts.reader.Capture.{the_row}
use Rattle.capture.specs.declared.reader.Record.{Record}
use Rattle.capture.specs.declared.reader.CaptureFault.{CaptureFault}
use Rattle.capture.specs.Steps.{next_record, Moves, Stays, Tells}

-- a record has the next number, and its frame fits the buffer; a fault names the record
abbrev pub Says : Capture → Result (Option Record) CaptureFault → Type 0
Says c (Ok (Some r)) = (r.number ≡ next_record c) × (length r.frame.now ≤ vec_len c.buffer)
Says c (Ok None) = Unit {0}
Says c (Err e) = Tells c e

-- a frame was read, and is the front of the buffer, or none was
abbrev pub Leaves : Capture → Capture → Result (Option Record) CaptureFault → Type 0
Leaves c d (Ok (Some r)) = Moves c d (length r.frame.now) × (r.frame.now ≡ take (length r.frame.now) d.buffer.items)
Leaves c d (Ok None) = Stays c d
Leaves c d (Err e) = Stays c d

abbrev pub LeavesOnce : MutBor Capture → Result (Option Record) CaptureFault → Fml
LeavesOnce c r = follows_so the_row the_row c.ghost_name none (λ _ _. ⊤) (λ d. Leaves c.now d r)
