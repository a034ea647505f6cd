-- An example of finding a rule: DNS answers before the rest of IPv4.
use Rattle.std.specs.Prelude.{◌≡◌, ℕ, ◌-◌, List, [], ◌∷◌, ◌++◌, length, replicate, Some}
use Rattle.flow.specs.Masks.{union}
use Rattle.classifier.specs.declared.rule.Rule.{Rule}
use Rattle.classifier.specs.Rules.{new_rule, named, found}
use Rattle.classifier.specs.Stores.{linear_mask}
use Rattle.classifier.specs.Tables.{added}
use Rattle.tuple_space.specs.Visits.{tuple_mask}

-- 36 bytes: these at a place, and zeros
abbrev pub row : ℕ → List ℕ → List ℕ
row from bytes = replicate from 0 ++ bytes ++ replicate (36 - from - length bytes) 0

abbrev pub type_bits : List ℕ
type_bits = row 14 (255 ∷ 255 ∷ [])

abbrev pub protocol_bits : List ℕ
protocol_bits = row 19 (255 ∷ [])

abbrev pub port_bits : List ℕ
port_bits = row 34 (255 ∷ 255 ∷ [])

-- id 1, priority 20: protocol 17 and destination port 53
abbrev pub dns : Rule
dns = new_rule 1 20 (union protocol_bits port_bits) (union (row 19 (17 ∷ [])) (row 34 (0 ∷ 53 ∷ []))) 4 0

-- id 2, priority 10: type 0x0800
abbrev pub ipv4 : Rule
ipv4 = new_rule 2 10 type_bits (row 14 (0x08 ∷ 0x00 ∷ [])) 2 0

abbrev pub rules : List Rule
rules = added (added [] dns) ipv4

-- an IPv4 key with protocol 6 and destination port 80
abbrev pub web : List ℕ
web = union (row 14 (0x08 ∷ 0x00 ∷ [])) (union (row 19 (6 ∷ [])) (row 34 (0 ∷ 80 ∷ [])))

pub record FindingExamples : Type 0 where
  -- the key finds id 2
  pub finds : found rules web ≡ Some (named ipv4)
  -- and the linear classifier's mask has all three fields: the rule that was passed over was looked at too
  pub mask : linear_mask rules web ≡ union (union protocol_bits port_bits) type_bits
  -- and so has the tuple-space classifier's: the tuple that was searched in vain was visited too
  pub tuples : tuple_mask (dns.mask ∷ ipv4.mask ∷ []) rules web ≡ union (union protocol_bits port_bits) type_bits
