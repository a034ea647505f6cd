-- The line that answers a frame.
use Rattle.std.specs.Prelude.{ℕ, List, ◌++◌, length, Some, None, codes, Option}
use Rattle.refusal.specs.Texts.{refusal_text}
use Rattle.packet.specs.Faults.{Refusal}
use Rattle.packet.specs.Frames.{Span, refusal, key_of, ipv4_of, transport_of}
use Rattle.text.specs.declared.place.Place.{Place}
use Rattle.text.specs.Texts.{decimal_text, key_text}

-- a part of the frame as offset+length, or none
unfoldable pub part_text : Option Span → List ℕ
part_text None = codes "none"
part_text (Some s) = decimal_text s.offset ++ codes "+" ++ decimal_text (length s.bytes)

-- a key, and where the IPv4 header and the transport part lie in the frame
unfoldable pub reading_text : List ℕ → Option Span → Option Span → List ℕ
reading_text k ipv4 transport = key_text k ++ codes " ipv4=" ++ part_text ipv4 ++ codes " transport=" ++ part_text transport

-- a frame that is refused, or read
abbrev pub outcome_text : ℕ → List ℕ → Option Refusal → List ℕ
outcome_text port f (Some x) = refusal_text x.0 x.1
outcome_text port f None = reading_text (key_of port f) (ipv4_of f) (transport_of f)

-- what a frame that came in at a port reads as
unfoldable pub answer_text : ℕ → List ℕ → List ℕ
answer_text port f = outcome_text port f (refusal port f)

-- the number of a frame of a capture, behind a dot
abbrev pub frame_text : Option ℕ → List ℕ → List ℕ
frame_text None line = line
frame_text (Some i) line = line ++ codes "." ++ decimal_text i

-- the line of the statement, and the number of the frame
unfoldable pub place_text : Place → List ℕ
place_text p = frame_text p.frame (decimal_text p.line)

-- the whole line of output
unfoldable pub line_text : Place → List ℕ → List ℕ
line_text p answer = place_text p ++ codes " key: " ++ answer ++ codes "\n"
