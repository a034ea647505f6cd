-- What a text that is no bytes is told.
use Rattle.std.specs.Prelude.{ℕ, List, ◌++◌, codes}
use Rattle.std.specs.Fmt.{decimal}
use Rattle.numeral.specs.declared.hex.HexFault.{HexFault}
use Rattle.numeral.specs.declared.hex.HexFault.TheVariants.{Memory, Odd, Digit}

abbrev pub fault_text : HexFault → List ℕ
fault_text Memory = codes "no memory"
fault_text (Odd n) = codes "the frame has an odd number of hexadecimal digits, " ++ decimal n
fault_text (Digit at) = codes "no hexadecimal digit in the frame, behind " ++ (decimal at ++ codes " digits")
