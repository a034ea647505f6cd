-- What a line, or a script, that is at fault is told.
use Rattle.std.specs.Prelude.{ℕ, List, ◌++◌, codes, string_bytes}
use Rattle.std.specs.Fmt.{decimal}
use Rattle.numeral.specs.HexFaults.{fault_text}
use Rattle.rule.specs.DraftTexts.{word_text, draft_text}
use Rattle.script.specs.declared.statement.LineFault.{LineFault}
use Rattle.script.specs.declared.statement.LineFault.TheVariants.{Memory, Unknown, Missing, Extra, Port, Hex, Word, Draft, Side, Pile, Late}
use Rattle.script.specs.declared.statement.ScriptFault.{ScriptFault}

abbrev pub line_text : LineFault → List ℕ
line_text Memory = codes "no memory"
line_text (Unknown word) = codes "unknown statement '" ++ (string_bytes word ++ codes "'")
line_text (Missing what) = what.now ++ codes " is missing"
line_text (Extra word) = codes "'" ++ (string_bytes word ++ codes "' is one word too many")
line_text (Port word) = codes "'" ++ (string_bytes word ++ codes "' is no port: a decimal or 0x number of 16 bits")
line_text (Hex fault) = fault_text fault
line_text (Word word fault) = codes "'" ++ (string_bytes word ++ (codes "': " ++ word_text fault))
line_text (Draft fault) = draft_text fault
line_text (Side word) = codes "'" ++ (string_bytes word ++ codes "' is no switch: A or B")
line_text (Pile word) = codes "'" ++ (string_bytes word ++ codes "' is nothing that a switch is made of: linear or tuple")
line_text Late = codes "a switch is set up behind the first call"

abbrev pub script_text : ScriptFault → List ℕ
script_text f = codes "line " ++ (decimal f.line ++ (codes ": " ++ line_text f.fault))
