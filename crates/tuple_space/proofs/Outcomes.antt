-- A visit in the order of falling rank finds the best rule of the table, and its mask tells enough.
use Rattle.std.proofs.Common.{◌≡◌, ℕ, ◌≤◌, true, false, cond, ltb, ◌⊎◌, List, [], ◌∷◌, length, Some, None, Option, sym, refl, ap, ◌∙◌, subst, ap₂, inl, inr, ⊎_elim, arith}
use Rattle.std.specs.Option.{option_map}
use Rattle.std.specs.List.{ContainsAt, AllByRecursion}
use Rattle.std.specs.Str.{bytes_eq}
use Rattle.std.proofs.lemmas.Bool.{cond_both, cond-true, cond-false, cases_Bool, both_ways, ltb-false, or_from, or_cases, true≢false}
use Rattle.std.proofs.ByRecursion.{All-weaker, kept_by_passes}
use Rattle.std.proofs.lemmas.Slice.Eq.{bytes_eq-Decides}
use Rattle.flow.specs.Masks.{Agree, Within, union}
use Rattle.flow.proofs.MaskLaws.{agree_left, agree_right, within_left, within_right, within_trans, within_union, length_union}
use Rattle.flow.proofs.WholeLaws.{within_empty, empty_bytes}
use Rattle.classifier.specs.declared.rule.Rule.{Rule}
use Rattle.classifier.specs.Rules.{best, matches, higher, bits_of, SoundRule}
use Rattle.classifier.specs.Inserts.{Pairs}
use Rattle.classifier.specs.BestLaws.{Untied, matches_alike}
use Rattle.tuple_space.specs.declared.ranked_mask.RankedMask.{RankedMask}
use Rattle.tuple_space.specs.Tuples.{listed, worn}
use Rattle.tuple_space.specs.Visits.{having, above, better, outcome, topmost, priority_in, visited, joined}
use Rattle.tuple_space.proofs.Visits.{Tops, tops_join, tops_best, tops_having}

pub same_sym : (xs ys : List ℕ) → bytes_eq xs ys ≡ true → bytes_eq ys xs ≡ true
same_sym xs ys e = (bytes_eq-Decides ys xs).1 (sym ((bytes_eq-Decides xs ys).0 e))

-- a rule whose mask is not among the tuples that are left has been seen
abbrev Seen : List RankedMask → Rule → Type 0
Seen ts r = listed ts r.mask ≡ false

-- the tuples in the order of visits: by falling rank, and no rule's priority is above the rank of its mask
pub record InOrder (rs : List Rule) (ts : List RankedMask) : Type 0 where
  pub falling : Pairs (λ t u. u.rank ≤ t.rank) ts
  pub bound : AllByRecursion (λ t. (r : Rule) → ContainsAt rs r → bytes_eq r.mask t.mask ≡ true → r.priority ≤ t.rank) ts

-- a rule whose mask is among the tuples is not above the first of them
below_first : (r : Rule) (n : ℕ) (ts : List RankedMask) → AllByRecursion (λ u. u.rank ≤ n) ts → AllByRecursion (λ t. bytes_eq r.mask t.mask ≡ true → r.priority ≤ t.rank) ts → listed ts r.mask ≡ true → r.priority ≤ n
unfolding listed
below_first r n [] f b e = absurd (true≢false (sym e))
below_first r n (t ∷ ts) f b e =
    ⊎_elim (λ s. low f.0 (b.0 (same_sym t.mask r.mask s))) (λ s. below_first r n ts f.1 b.1 s) (or_cases (bytes_eq t.mask r.mask) (listed ts r.mask) e)
  where
    low : t.rank ≤ n → r.priority ≤ t.rank → r.priority ≤ n
    low x y = omega arith

-- at the stop every rule is at most as high as what was found
stop : (rs : List Rule) (k : List ℕ) (o : Option Rule) (t : RankedMask) (ts : List RankedMask) → InOrder rs (t ∷ ts) → above t.rank (option_map (λ r. r.priority) o) ≡ false → Tops rs k (Seen (t ∷ ts)) o → Tops rs k (λ _. Unit {0}) o
stop rs k None t ts i e s = absurd (true≢false e)
stop rs k (Some b) t ts i e s = (
  s.0,
  s.1,
  λ r h _ m. ⊎_elim
      (λ l. low r (below_first r t.rank (t ∷ ts) (omega arith, i.falling.0) (All-weaker (λ t. (r : Rule) → ContainsAt rs r → bytes_eq r.mask t.mask ≡ true → r.priority ≤ t.rank) (λ t. bytes_eq r.mask t.mask ≡ true → r.priority ≤ t.rank) (λ t f. f r h) (t ∷ ts) i.bound) l) (ltb-false b.priority t.rank e))
      (λ l. s.2 r h l m) (cases_Bool (listed (t ∷ ts) r.mask)),
)
  where
    low : (r : Rule) → r.priority ≤ t.rank → t.rank ≤ b.priority → r.priority ≤ b.priority
    low r x y = omega arith

more_seen : (t : RankedMask) (ts : List RankedMask) (r : Rule) → Seen ts r → Seen (t ∷ ts) r ⊎ (bytes_eq r.mask t.mask ≡ true)
unfolding listed
more_seen t ts r e =
    ⊎_elim (λ s. inr (same_sym t.mask r.mask s)) (λ s. inl (or_from (bytes_eq t.mask r.mask) (listed ts r.mask) s e)) (cases_Bool (bytes_eq t.mask r.mask))

all_seen : (rs : List Rule) (k : List ℕ) (o : Option Rule) → Tops rs k (Seen []) o → Tops rs k (λ _. Unit {0}) o
unfolding listed
all_seen rs k None s = λ r h _. s r h refl
all_seen rs k (Some b) s = (s.0, s.1, λ r h _ m. s.2 r h refl m)

-- what the visit of the tuples that are left finds, with the best of the rules seen so far
outcome_tops : (rs : List Rule) (k : List ℕ) (o : Option Rule) (ts : List RankedMask) → Pairs Untied rs → InOrder rs ts → Tops rs k (Seen ts) o → outcome (λ r. r.priority) (λ m. best (having rs m) k) o ts ≡ best rs k
unfolding outcome
outcome_tops rs k o [] u i s = tops_best rs k o u (all_seen rs k o s)
outcome_tops rs k o (t ∷ ts) u i s =
    cond_both (above t.rank (option_map (λ r. r.priority) o)) (outcome (λ r. r.priority) (λ m. best (having rs m) k) (better (λ r. r.priority) o (best (having rs t.mask) k)) ts) o (λ x. x ≡ best rs k)
    (λ _. outcome_tops rs k (better (λ r. r.priority) o (best (having rs t.mask) k)) ts u (record { falling = i.falling.1; bound = i.bound.1 })
    (tops_join rs k (Seen (t ∷ ts)) (λ r. bytes_eq r.mask t.mask ≡ true) (Seen ts) o (best (having rs t.mask) k) (more_seen t ts) s (tops_having rs t.mask k u)))
    (λ e. tops_best rs k o u (stop rs k o t ts i e s))

-- from nothing, where the tuples have all masks
pub outcome_best : (rs : List Rule) (k : List ℕ) (ts : List RankedMask) → Pairs Untied rs → InOrder rs ts → ((r : Rule) → ContainsAt rs r → listed ts r.mask ≡ true) → outcome (λ r. r.priority) (λ m. best (having rs m) k) None ts ≡ best rs k
outcome_best rs k ts u i w = outcome_tops rs k None ts u i (λ r h s. absurd (both_ways (listed ts r.mask) s (w r h)))

-- the mask ---------------------------------------------------------------------------------------------------------

pub best_alike : (rs : List Rule) (k q : List ℕ) → AllByRecursion (λ r. matches r q ≡ matches r k) rs → best rs q ≡ best rs k
unfolding best
best_alike [] k q h = refl
best_alike (r ∷ rs) k q h = ap₂ (λ b o. cond b (higher r o) o) h.0 (best_alike rs k q h.1)

pub having_alike : (rs : List Rule) (m k q : List ℕ) → Agree m k q → best (having rs m) q ≡ best (having rs m) k
having_alike rs m k q a =
    best_alike (having rs m) k q
    (All-weaker (λ r. bytes_eq r.mask m ≡ true) (λ r. matches r q ≡ matches r k)
    (λ r e. matches_alike r k q (subst (λ n. Agree n k q) (sym ((bytes_eq-Decides r.mask m).0 e)) a)) (having rs m)
    (kept_by_passes (λ r. bytes_eq r.mask m) rs))

pub better_top : {X : Type 0} (p : X → ℕ) (o n : Option X) → option_map p (better p o n) ≡ topmost (option_map p o) (option_map p n)
better_top p None n = refl
better_top p (Some b) None = refl
better_top p (Some b) (Some c) =
    cond_both (ltb (p b) (p c)) (Some c) (Some b) (λ o. option_map p o ≡ Some (cond (ltb (p b) (p c)) (p c) (p b)))
    (λ e. ap Some (sym (cond-true (ltb (p b) (p c)) (p c) (p b) e))) (λ e. ap Some (sym (cond-false (ltb (p b) (p c)) (p c) (p b) e)))

-- keys that agree in the bits of the masks visited have one outcome
pub outcome_alike : (rs : List Rule) (k q : List ℕ) (o : Option Rule) (ts : List RankedMask) → Agree (joined (visited rs k (option_map (λ r. r.priority) o) ts)) k q → outcome (λ r. r.priority) (λ m. best (having rs m) q) o ts ≡ outcome (λ r. r.priority) (λ m. best (having rs m) k) o ts
unfolding outcome visited joined
outcome_alike rs k q o [] a = refl
outcome_alike rs k q o (t ∷ ts) a =
    ⊎_elim
    (λ e. let b = subst (λ ms. Agree (joined ms) k q) (cond-true (above t.rank (option_map (λ r. r.priority) o)) (t.mask ∷ visited rs k (topmost (option_map (λ r. r.priority) o) (priority_in rs t.mask k)) ts) [] e) a in
    let rest = visited rs k (topmost (option_map (λ r. r.priority) o) (priority_in rs t.mask k)) ts in
    ap (λ x. cond (above t.rank (option_map (λ r. r.priority) o)) x o)
    (ap (λ x. outcome (λ r. r.priority) (λ m. best (having rs m) q) (better (λ r. r.priority) o x) ts) (having_alike rs t.mask k q (agree_left t.mask (joined rest) k q b))
    ∙ outcome_alike rs k q (better (λ r. r.priority) o (best (having rs t.mask) k)) ts
    (subst (λ p. Agree (joined (visited rs k p ts)) k q) (sym (better_top (λ r. r.priority) o (best (having rs t.mask) k))) (agree_right t.mask (joined rest) k q b))))
    (λ e. cond-false (above t.rank (option_map (λ r. r.priority) o)) _ o e ∙ sym (cond-false (above t.rank (option_map (λ r. r.priority) o)) _ o e))
    (cases_Bool (above t.rank (option_map (λ r. r.priority) o)))

pub joined_within : (rs : List Rule) (k b : List ℕ) (p : Option ℕ) (ts : List RankedMask) → length b ≡ 36 → AllByRecursion (λ t. Within t.mask b) ts → Within (joined (visited rs k p ts)) b
unfolding visited joined
joined_within rs k b p [] l h = within_empty b l
joined_within rs k b p (t ∷ ts) l h =
    cond_both (above t.rank p) (t.mask ∷ visited rs k (topmost p (priority_in rs t.mask k)) ts) [] (λ ms. Within (joined ms) b)
    (λ _. within_union t.mask (joined (visited rs k (topmost p (priority_in rs t.mask k)) ts)) b h.0 (joined_within rs k b (topmost p (priority_in rs t.mask k)) ts l h.1)) (λ _. within_empty b l)

pub joined_long : (rs : List Rule) (k : List ℕ) (p : Option ℕ) (ts : List RankedMask) → AllByRecursion (λ t. length t.mask ≡ 36) ts → length (joined (visited rs k p ts)) ≡ 36
unfolding visited joined
joined_long rs k p [] h = empty_bytes.long
joined_long rs k p (t ∷ ts) h =
    cond_both (above t.rank p) (t.mask ∷ visited rs k (topmost p (priority_in rs t.mask k)) ts) [] (λ ms. length (joined ms) ≡ 36)
    (λ _. length_union 36 t.mask (joined (visited rs k (topmost p (priority_in rs t.mask k)) ts)) h.0 (joined_long rs k (topmost p (priority_in rs t.mask k)) ts h.1)) (λ _. empty_bytes.long)

pub bits_long : (rs : List Rule) → AllByRecursion SoundRule rs → length (bits_of rs) ≡ 36
unfolding bits_of
bits_long [] h = empty_bytes.long
bits_long (r ∷ rs) h = length_union 36 r.mask (bits_of rs) h.0.mask_bytes.long (bits_long rs h.1)

pub worn_within : (rs : List Rule) (m : List ℕ) → worn rs m ≡ true → Within m (bits_of rs)
unfolding worn bits_of
worn_within [] m e = absurd (true≢false (sym e))
worn_within (r ∷ rs) m e =
    ⊎_elim (λ s. subst (λ n. Within n (union r.mask (bits_of rs))) ((bytes_eq-Decides r.mask m).0 s) (within_left r.mask (bits_of rs)))
    (λ s. within_trans m (bits_of rs) (union r.mask (bits_of rs)) (worn_within rs m s) (within_right r.mask (bits_of rs)))
    (or_cases (bytes_eq r.mask m) (worn rs m) e)

pub worn_long : (rs : List Rule) (m : List ℕ) → AllByRecursion SoundRule rs → worn rs m ≡ true → length m ≡ 36
unfolding worn
worn_long [] m h e = absurd (true≢false (sym e))
worn_long (r ∷ rs) m h e =
    ⊎_elim (λ s. subst (λ n. length n ≡ 36) ((bytes_eq-Decides r.mask m).0 s) h.0.mask_bytes.long) (λ s. worn_long rs m h.1 s)
    (or_cases (bytes_eq r.mask m) (worn rs m) e)
