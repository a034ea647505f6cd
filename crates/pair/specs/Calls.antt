-- What each call answers, and what it leaves of a switch's rules.
use Rattle.std.specs.Prelude.{◌≡◌, ℕ, List, replicate, Some, None, Option, Ok, Err, Result}
use Rattle.refusal.specs.declared.Refusal as whole
use Rattle.classifier.specs.Tables.{Refusal}
use Rattle.packet.specs.Frames.{refusal, key_of}
use Rattle.datapath.specs.declared.level.Peek.{Peek}
use Rattle.datapath.specs.declared.level.RuleRecord.{RuleRecord}
use Rattle.datapath.specs.Walk.{TablesOf, walk, ports_of, due, Tells}
use Rattle.datapath.specs.Calls.{add_fault, with_rule, missing_fault, without_rule, rule_count}
use Rattle.switch.specs.declared.switch.Forwarded.{Forwarded}
use Rattle.text.specs.declared.answer.Reply.TheVariants.{Done, Count, Ports}
use Rattle.text.specs.Answers.{Answer}

-- a refusal's number and detail
abbrev pub refused : Refusal → Answer
refused x = Err (record { number = x.0; detail = x.1 })

-- the refusal where there is one, else the answer
abbrev pub unless : Option Refusal → Answer → Answer
unless None answer = answer
unless (Some x) answer = refused x

-- what is new where nothing refuses, else what was
abbrev pub changed : {X : Type 0} → Option Refusal → X → X → X
changed None new old = new
changed (Some x) new old = old

-- one rule more
abbrev pub add_answer : TablesOf → RuleRecord → Answer
add_answer ts r = unless (add_fault ts r) (Ok Done)

abbrev pub after_add : TablesOf → RuleRecord → TablesOf
after_add ts r = changed (add_fault ts r) (with_rule ts r) ts

-- one rule less
abbrev pub remove_answer : TablesOf → ℕ → ℕ → Answer
remove_answer ts table id = unless (missing_fault ts table id) (Ok Done)

abbrev pub after_remove : TablesOf → ℕ → ℕ → TablesOf
after_remove ts table id = changed (missing_fault ts table id) (without_rule ts table id) ts

-- a rule's count
abbrev pub count_answer : TablesOf → ℕ → ℕ → Answer
count_answer ts table id = unless (missing_fault ts table id) (Ok (Count (rule_count ts table id)))

-- the ports of a frame that came in at a port
abbrev pub frame_answer : TablesOf → ℕ → List ℕ → Answer
frame_answer ts port f = unless (refusal port f) (Ok (Ports (ports_of (walk ts (key_of port f)))))

-- the rules after it: each that it crosses counts one frame more
abbrev pub after_frame : TablesOf → ℕ → List ℕ → TablesOf
after_frame ts port f = changed (refusal port f) (due ts (key_of port f) 1) ts

-- where the frame is read, every key that agrees with its own in the mask is treated alike
abbrev pub Masks : TablesOf → ℕ → List ℕ → List ℕ → Type 0
Masks ts port f mask = refusal port f ≡ None → Tells ts (key_of port f) mask

-- what a switch says of a frame, as an answer, and its depth, 0 where it is refused
abbrev pub forwarded_answer : Result Forwarded whole.Refusal → Answer
forwarded_answer (Ok f) = Ok (Ports f.ports)
forwarded_answer (Err x) = Err x

abbrev pub forwarded_depth : Result Forwarded whole.Refusal → ℕ
forwarded_depth (Ok f) = f.depth
forwarded_depth (Err x) = 0

-- the same of a peek, and its mask
abbrev pub peeked_answer : Result Peek whole.Refusal → Answer
peeked_answer (Ok p) = Ok (Ports p.ports)
peeked_answer (Err x) = Err x

abbrev pub peeked_mask : Result Peek whole.Refusal → List ℕ
peeked_mask (Ok p) = p.mask
peeked_mask (Err x) = replicate 36 0
