-- The lines that answer the calls of the two switches.
use Rattle.std.specs.Prelude.{ℕ, Ok, Err, Result, zero, suc, ◌/◌, ◌%◌, ◌^◌, Bool, true, false, cond, ◌&&◌, List, [], ◌++◌, codes, ◌==◌}
use Rattle.refusal.specs.declared.Refusal.{Refusal}
use Rattle.refusal.specs.Texts.{refusal_text}
use Rattle.switch.specs.declared.totals.Totals.{Totals as Counted}
use Rattle.text.specs.declared.answer.Reply.{Reply}
use Rattle.text.specs.declared.answer.Reply.TheVariants.{Done, Count, Ports}
use Rattle.text.specs.declared.answer.Verb.{Verb}
use Rattle.text.specs.declared.answer.Verb.TheVariants.{Add, Remove, Count as Counts, Frame, Peek, Totals, Report}
use Rattle.text.specs.declared.place.Place.{Place}
use Rattle.text.specs.Lines.{place_text}
use Rattle.text.specs.Texts.{decimal_text, bytes_text}

-- bit p of a set says whether port p is in it
abbrev pub in_set : ℕ → ℕ → Bool
in_set set p = (set / 2 ^ p % 2) == 1

-- whether a port below p is in a set
abbrev pub none_lower : ℕ → ℕ → Bool
none_lower set p = (set % 2 ^ p) == 0

-- a port of a set, behind a comma where a lower one is in the set
abbrev pub port_text : ℕ → ℕ → List ℕ
port_text set p = cond (in_set set p) (cond (none_lower set p) [] (codes ",") ++ decimal_text p) []

-- the ports below n of a set, rising, with commas between
unfoldable pub ports_below : ℕ → ℕ → List ℕ
ports_below set zero = []
ports_below set (suc n) = ports_below set n ++ port_text set n

-- the ports of a set, or none
unfoldable pub ports_text : ℕ → List ℕ
ports_text set = cond (set == 0) (codes "none") (ports_below set 64)

-- what one switch answers: a reply or a refusal
abbrev pub Answer : Type 0
Answer = Result Reply Refusal

-- a reply
abbrev pub reply_text : Reply → List ℕ
reply_text Done = codes "ok"
reply_text (Count n) = codes "count=" ++ decimal_text n
reply_text (Ports set) = codes "ports=" ++ ports_text set

-- what one switch answers
unfoldable pub said_text : Answer → List ℕ
said_text (Ok r) = reply_text r
said_text (Err x) = refusal_text x.number x.detail

-- whether two replies are the same
abbrev pub same_reply : Reply → Reply → Bool
same_reply Done Done = true
same_reply Done (Count n) = false
same_reply Done (Ports t) = false
same_reply (Count m) Done = false
same_reply (Count m) (Count n) = m == n
same_reply (Count m) (Ports t) = false
same_reply (Ports s) Done = false
same_reply (Ports s) (Count n) = false
same_reply (Ports s) (Ports t) = s == t

-- whether two answers are the same
abbrev pub same_answer : Answer → Answer → Bool
same_answer (Ok r) (Ok s) = same_reply r s
same_answer (Ok r) (Err y) = false
same_answer (Err x) (Ok s) = false
same_answer (Err x) (Err y) = x.number == y.number && x.detail == y.detail

-- one answer where both are the same, else both
unfoldable pub both_text : Answer → Answer → List ℕ
both_text a b =
    cond (same_answer a b) (said_text a) (codes "differ A=" ++ said_text a ++ codes " B=" ++ said_text b)

-- the word of a call
abbrev pub verb_text : Verb → List ℕ
verb_text Add = codes "add"
verb_text Remove = codes "remove"
verb_text Counts = codes "count"
verb_text Frame = codes "frame"
verb_text Peek = codes "peek"
verb_text Totals = codes "totals"
verb_text Report = codes "report"

-- a line of output: where it comes from, the call's word, and what is said
unfoldable pub start_text : Place → Verb → List ℕ
start_text place verb = place_text place ++ codes " " ++ verb_text verb ++ codes ": "

-- the line that answers a call
unfoldable pub answer_line : Place → Verb → Answer → Answer → List ℕ
answer_line place verb a b = start_text place verb ++ both_text a b ++ codes "\n"

-- the line that answers a call by a word of the caller's
unfoldable pub word_line : Place → List ℕ → Answer → Answer → List ℕ
word_line place word a b = place_text place ++ codes " " ++ word ++ codes ": " ++ both_text a b ++ codes "\n"

-- whether both answers name the same ports
abbrev pub same_ports : Answer → Answer → Bool
same_ports (Ok Done) b = false
same_ports (Ok (Count n)) b = false
same_ports (Ok (Ports s)) b = same_answer (Ok (Ports s)) b
same_ports (Err x) b = false

-- the depths at which A and B decided
unfoldable pub depths_text : ℕ → ℕ → List ℕ
depths_text a b = codes " depth=A:" ++ decimal_text a ++ codes ",B:" ++ decimal_text b

-- the answers, and more behind them where both name the same ports
abbrev pub with_ports : Answer → Answer → List ℕ → List ℕ
with_ports a b more = both_text a b ++ cond (same_ports a b) more []

-- the ports, with the depths behind them, or how the answers differ
unfoldable pub forwarded_text : Answer → Answer → ℕ → ℕ → List ℕ
forwarded_text a b m n = with_ports a b (depths_text m n)

-- the line that answers a frame
unfoldable pub frame_line : Place → Answer → Answer → ℕ → ℕ → List ℕ
frame_line place a b m n = start_text place Frame ++ forwarded_text a b m n ++ codes "\n"

-- the masks of A and B
unfoldable pub masks_text : List ℕ → List ℕ → List ℕ
masks_text a b = codes " mask=A:" ++ bytes_text a ++ codes ",B:" ++ bytes_text b

-- the ports, with the masks behind them, or how the answers differ
unfoldable pub peeked_text : Answer → Answer → List ℕ → List ℕ → List ℕ
peeked_text a b m n = with_ports a b (masks_text m n)

-- the line that answers `peek`
unfoldable pub peek_line : Place → Answer → Answer → List ℕ → List ℕ → List ℕ
peek_line place a b m n = start_text place Peek ++ peeked_text a b m n ++ codes "\n"

-- a rule by its table and its id
unfoldable pub rule_text : ℕ → ℕ → List ℕ
rule_text table id = codes "table=" ++ decimal_text table ++ codes " id=" ++ decimal_text id ++ codes " "

-- the line of a standing rule in a report
unfoldable pub report_line : Place → ℕ → ℕ → Answer → Answer → List ℕ
report_line place table id a b = start_text place Report ++ rule_text table id ++ both_text a b ++ codes "\n"

-- what one switch has counted
unfoldable pub counted_text : Counted → List ℕ
counted_text s =
    codes " frames=" ++ decimal_text s.frames ++ codes " depth1=" ++ decimal_text s.depth1
    ++ codes " depth2=" ++ decimal_text s.depth2 ++ codes " deeper=" ++ decimal_text s.deeper

-- the line that answers `totals`
unfoldable pub totals_line : Place → Counted → Counted → List ℕ
totals_line place a b = start_text place Totals ++ codes "A" ++ counted_text a ++ codes "; B" ++ counted_text b ++ codes "\n"
