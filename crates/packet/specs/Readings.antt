-- What a reader hands out.
use Rattle.packet.specs.declared.reader.Part.{Part}
use Rattle.packet.specs.Frames.{Span}

-- a part that is handed out
abbrev pub span_of : Part → Span
span_of p = record { offset = p.offset; bytes = p.bytes.now }
