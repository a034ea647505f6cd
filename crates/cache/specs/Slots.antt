-- The slots of a cache: what they hold back, and what is true of them.
use Rattle.std.specs.Prelude.{◌≡◌, ℕ, Bool, true, false, cond, not, List, [], ◌∷◌, Some, None, Option}
use Rattle.std.specs.Option.{option_map_or}
use Rattle.flow.specs.Masks.{Bytes36, Within, Covers, empty_mask}
use Rattle.datapath.specs.Walk.{TablesOf, Tells, due}
use Rattle.datapath.specs.Entries.{TrueEntry}
use Rattle.datapath.specs.Entries as level
use Rattle.cache.specs.declared.slot.Entry.{Entry}
use Rattle.cache.specs.declared.slot.Slot.{Slot}
use Rattle.cache.specs.declared.slot.Answer.{Answer}

-- the slot's entry may answer: it is there and not suspect
abbrev pub answering : Slot → Bool
answering s = option_map_or (λ e. not e.suspect) s.entry false

-- its mask and its value, those of no bit where it is not there
abbrev pub mask_of : Slot → List ℕ
mask_of s = option_map_or (λ e. e.mask) s.entry empty_mask

abbrev pub value_of : Slot → List ℕ
value_of s = option_map_or (λ e. e.value) s.entry empty_mask

-- what it answers
abbrev pub answer_of : Slot → Answer
answer_of s = record { ports = option_map_or (λ e. e.ports) s.entry 0; place = s.place }

-- what an entry covers, and the ports that it gives
abbrev pub entry_of : Entry → level.Entry
entry_of e = record { mask = e.mask; value = e.value; ports = e.ports }

-- the rules once an entry was paid, if there is one: its held count is credited at its value
abbrev pub owed_to : TablesOf → Option Entry → TablesOf
owed_to ts None = ts
owed_to ts (Some e) = due ts e.value e.held

-- the rules once this slot's entry was paid; an unfilled slot holds nothing
abbrev pub owed : TablesOf → Slot → TablesOf
owed ts s = owed_to ts s.entry

-- the rules once every entry was paid
unfoldable pub paid : TablesOf → List Slot → TablesOf
paid ts [] = ts
paid ts (s ∷ ss) = paid (owed ts s) ss

-- the unsuspected entries
unfoldable pub shown : List Slot → List level.Entry
shown [] = []
shown (s ∷ ss) = option_map_or (λ e. cond e.suspect (shown ss) (entry_of e ∷ shown ss)) s.entry (shown ss)

-- what is true of a slot's entry that may answer: it is true of the rules, and its answer mask tells enough of every key that it covers
pub record TrueSlot (ts : TablesOf) (e : Entry) : Type 0 where
  pub entry : TrueEntry ts (entry_of e)
  pub tells : (q : List ℕ) → Bytes36 q → Covers e.mask e.value q → Tells ts q e.answer

-- what is true of every slot's entry
pub record FairSlot (ts : TablesOf) (e : Entry) : Type 0 where
  pub mask_bytes : Bytes36 e.mask
  pub value_bytes : Bytes36 e.value
  pub masked_key : Within e.value e.mask
  pub says : e.suspect ≡ false → TrueSlot ts e
  -- a suspect entry has been paid, and answered with the mask of what it covers
  pub paid_off : e.suspect ≡ true → (e.held ≡ 0) × (e.answer ≡ e.mask)
