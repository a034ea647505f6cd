-- The numbers and details of the refusals of a frame.
use Rattle.std.specs.Prelude.{ℕ}
use Rattle.packet.specs.declared.fault.FrameFault.{FrameFault}
use Rattle.packet.specs.declared.fault.FrameFault.TheVariants.{InPort, Short, Long, ShortTagged}

-- a refusal: its number, and the detail that it gives
abbrev pub Refusal : Type 0
Refusal = ℕ × ℕ

-- each fault as a refusal
abbrev pub refusal_of : FrameFault → Refusal
refusal_of (InPort port) = (1, port)
refusal_of (Short len) = (2, len)
refusal_of (Long len) = (3, len)
refusal_of (ShortTagged len) = (4, len)
