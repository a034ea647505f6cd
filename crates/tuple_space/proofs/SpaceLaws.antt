-- What a tuple-space classifier's parts say of one another, kept by its calls.
use Rattle.std.proofs.Common.{◌≡◌, ℕ, ◌<◌, ◌≤◌, true, cond, List, length, Some, None, vec_items, sym, ap, ◌∙◌, subst, ap₂, arith}
use Rattle.classifier.specs.declared.rule.Rule.{Rule}
use Rattle.classifier.specs.Stores.{by_id}
use Rattle.classifier.specs.Tables.{add_refusal, removed, of_id}
use Rattle.classifier.specs.KeptLaws.{lawful_kept}
use Rattle.classifier.specs.LawsLemmas.{admitted}
use Rattle.tuple_space.specs.declared.ranked_mask.RankedMask.{RankedMask}
use Rattle.tuple_space.specs.declared.space.TupleSpace.{TupleSpace}
use Rattle.tuple_space.specs.Arrivals.{rules_of}
use Rattle.tuple_space.specs.Changes.{Went, rank_left}
use Rattle.tuple_space.specs.Tuples.{TuplesOf, worn, rank_of, listed, masks_of, remaining, left_after}
use Rattle.tuple_space.proofs.RuleLaws.{each_worn, named_has, removed_back, at_id_some, worn_by_id, rank_by_id}
use Rattle.tuple_space.proofs.OrderLaws.{each_worn_tuple, few_tuples}
use Rattle.tuple_space.proofs.ChangeLaws.{tuples_went, arrivals_went}

-- the tuples are those of the rules
pub tuples_held : (s : TupleSpace) → TuplesOf (rules_of s) (vec_items s.masks.arrived)
tuples_held s = record { masks = s.covered; ranks = s.ranks; once = s.masks.once }

-- there are at most as many as rules
pub few_held : (s : TupleSpace) → length (vec_items s.masks.arrived) ≤ length (rules_of s)
few_held s =
    few_tuples (rules_of s) (vec_items s.masks.arrived) s.masks.once (each_worn_tuple (rules_of s) (vec_items s.masks.arrived) (tuples_held s))

pub few_all : (s : TupleSpace) → length (vec_items s.masks.arrived) ≤ 64
few_all s = let f = few_held s in let l = (lawful_kept s.rules.store).few in omega (arith, f, l)

-- and fewer than 64 where a rule may be added
pub few_before : (s : TupleSpace) (new : Rule) → add_refusal (rules_of s) new ≡ None → length (vec_items s.masks.arrived) < 64
few_before s new a = let f = few_held s in let l = (admitted (rules_of s) new a).room in omega (arith, f, l)

-- the mask of a rule that is named stands
pub named_listed : (s : TupleSpace) (i : ℕ) (out : Rule) → of_id (rules_of s) i ≡ Some out → listed (vec_items s.masks.arrived) out.mask ≡ true
named_listed s i out e =
    s.covered out.mask ∙ (named_has (λ r. worn (rules_of s) r.mask ≡ true) (rules_of s) i out e (each_worn (rules_of s))).0

-- a rule left
pub record AfterRemoval (s : TupleSpace) (i : ℕ) (rest : List Rule) (us : List RankedMask) : Type 0 where
  pub tuples : TuplesOf rest us
  pub masks : masks_of us ≡ left_after (masks_of (vec_items s.masks.arrived)) (rules_of s) i

pub after_removal : (s : TupleSpace) (i : ℕ) (out : Rule) (xs : List Rule) (us : List RankedMask) → of_id (rules_of s) i ≡ Some out → by_id xs ≡ removed (rules_of s) i → Went (vec_items s.masks.arrived) us out.mask (rank_left xs out.mask) → AfterRemoval s i (by_id xs) us
after_removal s i out xs us e f w =
    let rs = rules_of s in
    let ts = vec_items s.masks.arrived in
    let v = subst (Went ts us out.mask) (ap₂ (λ a b. cond a (Some b) None) (sym (worn_by_id xs out.mask) ∙ ap (λ ys. worn ys out.mask) f) (sym (rank_by_id xs out.mask) ∙ ap (λ ys. rank_of ys out.mask) f)) w in
    record {
      tuples = subst (λ ys. TuplesOf ys us) (sym f) (tuples_went (removed rs i) out ts us (subst (λ ys. TuplesOf ys ts) (sym (removed_back rs i out (lawful_kept s.rules.store).rising e)) (tuples_held s)) v);
      masks = arrivals_went (removed rs i) out.mask ts us v ∙ sym (at_id_some (λ r. remaining (masks_of ts) (removed rs i) r.mask) (masks_of ts) rs i out e);
    }
