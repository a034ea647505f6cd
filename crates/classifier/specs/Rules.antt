-- Rules: what one matches, which of several decides, and when a set of them may stand in one table.
use Rattle.std.specs.Prelude.{◌≡◌, ℕ, ◌^◌, ◌<◌, ◌≤◌, Bool, false, cond, List, [], ◌∷◌, length, Some, None, Option, nat_lt}
use Rattle.std.specs.Option.{option_map}
use Rattle.std.specs.List.{AllByRecursion}
use Rattle.flow.specs.Masks.{Bytes36, Within, Agree, covered, overlapping, union, empty_mask}
use Rattle.classifier.specs.declared.rule.Rule.{Rule}
use Rattle.classifier.specs.declared.rule.Match.{Match}
use Rattle.classifier.specs.declared.rule.NewRule.{NewRule}

-- the rule matches the key: its masked key covers it
unfoldable pub matches : Rule → List ℕ → Bool
matches r k = covered r.mask r.value k

-- some key is matched by both
unfoldable pub clashing : Rule → Rule → Bool
clashing r s = overlapping r.mask r.value s.mask s.value

-- a rule as it is added, with count 0
abbrev pub new_rule : (id priority : ℕ) (mask value : List ℕ) (ports next : ℕ) → Rule
new_rule id priority mask value ports next =
    record { id = id; priority = priority; mask = mask; value = value; ports = ports; next = next; count = 0 }

-- a rule that is to stand, as one with count 0
abbrev pub fresh : NewRule → Rule
fresh n = new_rule n.id n.priority n.key.mask n.key.value n.ports n.next

-- Finding ----------------------------------------------------------------------------------------------------

-- of a rule and the best of the others, the one of higher priority
abbrev pub higher : Rule → Option Rule → Option Rule
higher r None = Some r
higher r (Some s) = cond (nat_lt s.priority r.priority) (Some r) (Some s)

-- the matching rule of highest priority
unfoldable pub best : List Rule → List ℕ → Option Rule
best [] k = None
best (r ∷ rs) k = cond (matches r k) (higher r (best rs k)) (best rs k)

-- what a find names of a rule: its id, and where a frame goes that crosses it
abbrev pub named : Rule → Match
named r = record { id = r.id; ports = r.ports; next = r.next }

-- what a find answers
unfoldable pub found : List Rule → List ℕ → Option Match
found rs k = option_map named (best rs k)

-- the bits that some rule looks at
unfoldable pub bits_of : List Rule → List ℕ
bits_of [] = empty_mask
bits_of (r ∷ rs) = union r.mask (bits_of rs)

-- the mask tells enough of the key: every key that agrees with it in the mask's bits finds the same
unfoldable pub Adequate : List Rule → List ℕ → List ℕ → Type 0
Adequate rs k m = (q : List ℕ) → Bytes36 q → Agree m k q → found rs q ≡ found rs k

-- what a find's mask keeps: it tells enough, and has no bit that no rule looks at
pub record FindMask (rs : List Rule) (k m : List ℕ) : Type 0 where
  pub tells : Adequate rs k m
  pub bounded : Within m (bits_of rs)

-- Standing ---------------------------------------------------------------------------------------------------

-- a rule's masked key is one, and its numbers have their widths
pub record SoundRule (r : Rule) : Type 0 where
  pub mask_bytes : Bytes36 r.mask
  pub value_bytes : Bytes36 r.value
  pub masked_key : Within r.value r.mask
  pub id_fits : r.id < 2 ^ 32
  pub count_fits : r.count < 2 ^ 64

-- the ids rise, so that one list stands for one set of rules
unfoldable pub Rising : List Rule → Type 0
Rising [] = Unit {0}
Rising (r ∷ rs) = AllByRecursion (λ s. r.id < s.id) rs × Rising rs

-- no two rules of one priority match one key
unfoldable pub Apart : List Rule → Type 0
Apart [] = Unit {0}
Apart (r ∷ rs) = AllByRecursion (λ s. r.priority ≡ s.priority → clashing r s ≡ false) rs × Apart rs

-- the rules may stand in one table
pub record Lawful (rs : List Rule) : Type 0 where
  pub sound : AllByRecursion SoundRule rs
  pub rising : Rising rs
  pub apart : Apart rs
  pub few : length rs ≤ 64
