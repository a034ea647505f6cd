-- What a visit of the tuples of a table's rules finds, and its mask.
use Rattle.std.proofs.Common.{◌≡◌, ℕ, Bool, true, false, cond, ltb, List, [], ◌∷◌, length, Some, None, Option, sym, refl, ap, ◌∙◌, subst, ap₂}
use Rattle.std.specs.Option.{option_map}
use Rattle.std.proofs.ByRecursion.{All-weaker}
use Rattle.flow.specs.Masks.{Within, union, empty_mask}
use Rattle.flow.proofs.WholeLaws.{empty_union}
use Rattle.classifier.specs.declared.rule.Rule.{Rule}
use Rattle.classifier.specs.Found.{found_of}
use Rattle.classifier.specs.Rules.{best, named, found, bits_of, Adequate, FindMask, Lawful}
use Rattle.classifier.specs.BestLaws.{pairs_from_apart}
use Rattle.tuple_space.specs.declared.ranked_mask.RankedMask.{RankedMask}
use Rattle.tuple_space.specs.Tuples.{worn, masks_of, TuplesOf}
use Rattle.tuple_space.specs.Visits.{having, searched, above, better, outcome, visited, joined, ordered, tuple_mask}
use Rattle.tuple_space.proofs.Outcomes.{outcome_best, outcome_alike, joined_within, joined_long, bits_long, worn_within, worn_long}
use Rattle.tuple_space.proofs.SearchLaws.{found_priority}
use Rattle.tuple_space.proofs.OrderLaws.{all_ordered, visit_order_is, in_order, all_listed, each_worn_tuple}

-- what is said of the better is the better of what is said
better_said : (o n : Option Rule) → better (λ f. f.priority) (option_map found_of o) (option_map found_of n) ≡ option_map found_of (better (λ r. r.priority) o n)
better_said None n = refl
better_said (Some b) None = refl
better_said (Some b) (Some c) =
    cond_said (ltb b.priority c.priority)
  where
    cond_said : (t : Bool) → cond t (Some (found_of c)) (Some (found_of b)) ≡ option_map found_of (cond t (Some c) (Some b))
    cond_said true = refl
    cond_said false = refl

outcome_said : (rs : List Rule) (k : List ℕ) (o : Option Rule) (ts : List RankedMask) → outcome (λ f. f.priority) (searched rs k) (option_map found_of o) ts ≡ option_map found_of (outcome (λ r. r.priority) (λ m. best (having rs m) k) o ts)
unfolding outcome
outcome_said rs k o [] = refl
outcome_said rs k o (t ∷ ts) =
    ap₂ (λ p x. cond (above t.rank p) x (option_map found_of o)) (found_priority o)
    (ap (λ x. outcome (λ f. f.priority) (searched rs k) x ts) (better_said o (best (having rs t.mask) k)) ∙ outcome_said rs k (better (λ r. r.priority) o (best (having rs t.mask) k)) ts)
    ∙ over (above t.rank (option_map (λ r. r.priority) o)) (outcome (λ r. r.priority) (λ m. best (having rs m) k) (better (λ r. r.priority) o (best (having rs t.mask) k)) ts)
  where
    over : (b : Bool) (x : Option Rule) → cond b (option_map found_of x) (option_map found_of o) ≡ option_map found_of (cond b x o)
    over true x = refl
    over false x = refl

identity_said : (o : Option Rule) → option_map (λ f. f.rule) (option_map found_of o) ≡ option_map named o
identity_said None = refl
identity_said (Some r) = refl

-- what a find gives
pub record VisitFinds (rs : List Rule) (ts : List RankedMask) (k m : List ℕ) : Type 0 where
  pub rule : option_map (λ f. f.rule) (outcome (λ f. f.priority) (searched rs k) None (ordered [] ts)) ≡ found rs k
  pub mask : FindMask rs k m
  pub exact : m ≡ tuple_mask (masks_of ts) rs k

pub visit_finds : (rs : List Rule) (ts : List RankedMask) (k m : List ℕ) → Lawful rs → TuplesOf rs ts → m ≡ union empty_mask (joined (visited rs k None (ordered [] ts))) → VisitFinds rs ts k m
unfolding found Adequate tuple_mask
visit_finds rs ts k m l t e =
    record {
      rule = ap (option_map (λ f. f.rule)) (outcome_said rs k None vs) ∙ identity_said (outcome (λ r. r.priority) (λ n. best (having rs n) k) None vs) ∙ ap (option_map named) (all_found k);
      mask = subst (FindMask rs k) (sym is) (record {
        tells = λ q _ a. ap (option_map named) (sym (all_found q) ∙ outcome_alike rs k q None vs a ∙ all_found k);
        bounded = joined_within rs k (bits_of rs) None vs (bits_long rs l.sound) (all_ordered (λ u. Within u.mask (bits_of rs)) [] ts tt (All-weaker (λ u. worn rs u.mask ≡ true) (λ u. Within u.mask (bits_of rs)) (λ u w. worn_within rs u.mask w) ts (each_worn_tuple rs ts t)));
      });
      exact = is ∙ ap (λ us. joined (visited rs k None us)) (sym (visit_order_is rs ts t));
    }
  where
    vs : List RankedMask
    vs = ordered [] ts

    all_found : (q : List ℕ) → outcome (λ r. r.priority) (λ n. best (having rs n) q) None vs ≡ best rs q
    all_found q = outcome_best rs q vs (pairs_from_apart rs l.apart) (in_order rs ts t) (all_listed rs ts t)

    is : m ≡ joined (visited rs k None vs)
    is =
        e ∙ empty_union (joined (visited rs k None vs))
        (joined_long rs k None vs (all_ordered (λ u. length u.mask ≡ 36) [] ts tt (All-weaker (λ u. worn rs u.mask ≡ true) (λ u. length u.mask ≡ 36) (λ u w. worn_long rs u.mask l.sound w) ts (each_worn_tuple rs ts t))))
