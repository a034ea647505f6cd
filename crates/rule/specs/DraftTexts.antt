-- What a word, or a rule, that is at fault is told.
use Rattle.std.specs.Prelude.{ℕ, List, codes}
use Rattle.rule.specs.declared.draft.WordFault.{WordFault}
use Rattle.rule.specs.declared.draft.WordFault.TheVariants.{Shape, Unknown, Twice, Table, Id, Priority, Next, Ports, Bytes, Value, Mask}
use Rattle.rule.specs.declared.draft.DraftFault.{DraftFault}
use Rattle.rule.specs.declared.draft.DraftFault.TheVariants.{Table as NoTable, Id as NoId, Mask as NoMask, Value as NoValue, Mixed}

abbrev pub word_text : WordFault → List ℕ
word_text Shape = codes "no NAME=VALUE"
word_text Unknown = codes "no such name in this statement"
word_text Twice = codes "the name stands twice"
word_text Table = codes "the table is no number of 32 bits"
word_text Id = codes "the id is no number of 32 bits"
word_text Priority = codes "the priority is no number of 16 bits"
word_text Next = codes "the next table is no number of 16 bits"
word_text Ports = codes "no list of ports from 0 to 63, and not none"
word_text Bytes = codes "36 bytes take 72 hexadecimal digits"
word_text Value = codes "no value of this field"
word_text Mask = codes "no mask of this field"

abbrev pub draft_text : DraftFault → List ℕ
draft_text NoTable = codes "table= is missing"
draft_text NoId = codes "id= is missing"
draft_text NoMask = codes "mask= is missing"
draft_text NoValue = codes "value= is missing"
draft_text Mixed = codes "fields and mask= value= do not go together"
