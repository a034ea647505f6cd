-- The laws of rule lists that the crates above use: what keeps a list lawful, and that the best rule decides.
use Rattle.std.specs.Prelude.{◌≡◌, ℕ, ◌<◌, ◌≤◌, Bool, true, false, cond, not, ◌⊎◌, List, [], ◌∷◌, length, Some, None, filter, Option, ◌==◌, nat_le, nat_lt, refl}
use Rattle.std.proofs.Common.{sym, subst, inl, inr, ⊎_elim, arith}
use Rattle.std.specs.List.{ContainsAt, AllByRecursion}
use Rattle.std.proofs.lemmas.List.{length-map}
use Rattle.std.proofs.lemmas.Bool.{cond_both, cases_order, ltb-true, ltb-false, leb-false, both_ways}
use Rattle.std.proofs.ByRecursion.{All-weaker, all-has, all_kept_by, has_append_right}
use Rattle.classifier.specs.declared.rule.Rule.{Rule}
use Rattle.classifier.specs.Rules.{matches, clashing, higher, best, SoundRule, Lawful}
use Rattle.classifier.specs.Tables.{Refusal, stands, clash, clash_refusal, add_refusal, added, removed, raised, credited}
use Rattle.classifier.specs.Laws.{Decided, BestDecides}
use Rattle.classifier.specs.Inserts.{Pairs, all_over, pairs_over, pairs_kept_by, length_kept_by}
use Rattle.classifier.specs.ByIdLaws.{credit_one, length_added, all_added, pairs_added, rising_added, rising_from_pairs, pairs_from_rising, fresh_from_stands, apart_from_clash}
use Rattle.classifier.specs.BestLaws.{Untied, untied_sym, apart_from_pairs, pairs_from_apart, priorities_differ}

-- an add that is not refused ---------------------------------------------------------------------------------

not_some : (b : Bool) (x : Refusal) (o : Option Refusal) → cond b (Some x) o ≡ None → (b ≡ false) × (o ≡ None)
not_some true x o h = absurd (let z : ◌≡◌ {A = ℕ} 0 1 = cc in omega arith)
not_some false x o h = (refl, h)

no_clash : (o : Option ℕ) → clash_refusal o ≡ None → o ≡ None
no_clash None h = refl
no_clash (Some i) h = absurd (let z : ◌≡◌ {A = ℕ} 0 1 = cc in omega arith)

-- what a new rule finds where it may stand
pub record Admitted (rs : List Rule) (new : Rule) : Type 0 where
  pub fresh : stands rs new.id ≡ false
  pub room : length rs < 64
  pub alone : clash rs new ≡ None

pub admitted : (rs : List Rule) (new : Rule) → add_refusal rs new ≡ None → Admitted rs new
unfolding add_refusal
admitted rs new h =
    let p = not_some (stands rs new.id) (9, new.id) (cond (nat_le 64 (length rs)) (Some (10, 64)) (clash_refusal (clash rs new))) h in
    let q = not_some (nat_le 64 (length rs)) (10, 64) (clash_refusal (clash rs new)) p.1 in
    record { fresh = p.0; room = leb-false 64 (length rs) q.0; alone = no_clash (clash rs new) q.1 }

-- the new rule does not tie with those that stand
pub untied_admitted : (rs : List Rule) (new : Rule) → clash rs new ≡ None → AllByRecursion (Untied new) rs
untied_admitted rs new h =
    All-weaker (λ s. s.priority ≡ new.priority → clashing s new ≡ false) (Untied new) (λ s u. untied_sym s new u) rs (apart_from_clash rs new h)

pairs_added_untied : (rs : List Rule) (new : Rule) → AllByRecursion (Untied new) rs → Pairs Untied rs → Pairs Untied (added rs new)
pairs_added_untied rs new h q = pairs_added Untied untied_sym rs new h q

pub lawful_added : (rs : List Rule) (new : Rule) → Lawful rs → SoundRule new → add_refusal rs new ≡ None → Lawful (added rs new)
lawful_added rs new l s h =
    let a = admitted rs new h in
    let room = a.room in
    let n = length_added rs new in
    record {
      sound = all_added SoundRule rs new l.sound s;
      rising = rising_added rs new (fresh_from_stands rs new a.fresh) l.rising;
      apart = apart_from_pairs (added rs new) (pairs_added_untied rs new (untied_admitted rs new a.alone) (pairs_from_apart rs l.apart));
      few = omega arith;
    }

pub lawful_removed : (rs : List Rule) (i : ℕ) → Lawful rs → Lawful (removed rs i)
unfolding removed
lawful_removed rs i l =
    let p : Rule → Bool = λ r. not (r.id == i) in
    let n = length_kept_by p rs in
    let few = l.few in
    record {
      sound = all_kept_by p SoundRule rs l.sound;
      rising = rising_from_pairs (filter p rs) (pairs_kept_by (λ r s. r.id < s.id) p rs (pairs_from_rising rs l.rising));
      apart = apart_from_pairs (filter p rs) (pairs_kept_by Untied p rs (pairs_from_apart rs l.apart));
      few = omega arith;
    }

-- counting ----------------------------------------------------------------------------------------------------

raised_sound : (n : ℕ) (r : Rule) → SoundRule r → SoundRule (raised n r)
raised_sound n r s =
    record { mask_bytes = s.mask_bytes; value_bytes = s.value_bytes; masked_key = s.masked_key; id_fits = s.id_fits; count_fits = omega arith }

pub all_credited : (P : Rule → Type 0) (i n : ℕ) → ((r : Rule) → P r → P (raised n r)) → (rs : List Rule) → AllByRecursion P rs → AllByRecursion P (credited rs i n)
unfolding credited
all_credited P i n up rs h =
    all_over P P (credit_one i n) (λ r p. cond_both (r.id == i) (raised n r) r P (λ _. up r p) (λ _. p)) rs h

pub sound_credited : (rs : List Rule) (i n : ℕ) → AllByRecursion SoundRule rs → AllByRecursion SoundRule (credited rs i n)
sound_credited rs i n h = all_credited SoundRule i n (raised_sound n) rs h

pub pairs_credited : (R : Rule → Rule → Type 0) (i n : ℕ) → ((r s : Rule) → R r s → R (raised n r) s) → ((r s : Rule) → R r s → R r (raised n s)) → (rs : List Rule) → Pairs R rs → Pairs R (credited rs i n)
unfolding credited
pairs_credited R i n left right rs h =
    pairs_over R R (credit_one i n)
    (λ r s p. cond_both (r.id == i) (raised n r) r (λ x. R x (credit_one i n s))
    (λ _. left r (credit_one i n s) (later r s p)) (λ _. later r s p)) rs h
  where
    later : (r s : Rule) → R r s → R r (credit_one i n s)
    later r s p = cond_both (s.id == i) (raised n s) s (λ x. R r x) (λ _. right r s p) (λ _. p)

pub untied_credited : (rs : List Rule) (i n : ℕ) → Pairs Untied rs → Pairs Untied (credited rs i n)
unfolding clashing
untied_credited rs i n h = pairs_credited Untied i n (λ r s u. u) (λ r s u. u) rs h

pub length_credited : (rs : List Rule) (i n : ℕ) → length (credited rs i n) ≡ length rs
unfolding credited
length_credited rs i n = length-map rs (credit_one i n)

pub lawful_credited : (rs : List Rule) (i n : ℕ) → Lawful rs → Lawful (credited rs i n)
lawful_credited rs i n l =
    record {
      sound = sound_credited rs i n l.sound;
      rising = rising_from_pairs (credited rs i n) (pairs_credited (λ r s. r.id < s.id) i n (λ r s p. p) (λ r s p. p) rs (pairs_from_rising rs l.rising));
      apart = apart_from_pairs (credited rs i n) (untied_credited rs i n (pairs_from_apart rs l.apart));
      few = subst (λ m. m ≤ 64) (sym (length_credited rs i n)) l.few;
    }

-- the best rule decides -----------------------------------------------------------------------------------------

-- the same, rule by rule of the list
abbrev pub Said : List Rule → List ℕ → Option Rule → Type 0
Said rs k None = AllByRecursion (λ r. matches r k ≡ false) rs
Said rs k (Some b) = ContainsAt rs b × (matches b k ≡ true) × AllByRecursion (λ r. matches r k ≡ true → (r ≡ b) ⊎ (r.priority < b.priority)) rs

said_skip : (r : Rule) (rs : List Rule) (k : List ℕ) (o : Option Rule) → matches r k ≡ false → Said rs k o → Said (r ∷ rs) k o
said_skip r rs k None m s = (m, s)
said_skip r rs k (Some b) m s =
    (has_append_right (r ∷ []) rs b s.0, s.1, ((λ t. absurd (both_ways (matches r k) m t)), s.2))

first_of : (r : Rule) (rs : List Rule) → ContainsAt (r ∷ rs) r
first_of r rs = (0, omega arith, λ d. refl)

said_more : (r : Rule) (rs : List Rule) (k : List ℕ) (o : Option Rule) → matches r k ≡ true → AllByRecursion (Untied r) rs → Said rs k o → Said (r ∷ rs) k (higher r o)
said_more r rs k None m u s =
    (first_of r rs, m, ((λ _. inl refl), All-weaker (λ x. matches x k ≡ false) (λ x. matches x k ≡ true → (x ≡ r) ⊎ (x.priority < r.priority)) (λ x f t. absurd (both_ways (matches x k) f t)) rs s))
said_more r rs k (Some b) m u s =
    cond_both (nat_lt b.priority r.priority) (Some r) (Some b) (Said (r ∷ rs) k)
    (λ e. let l = ltb-true b.priority r.priority e in (
      first_of r rs,
      m,
      (
        (λ _. inl refl),
        All-weaker (λ x. matches x k ≡ true → (x ≡ b) ⊎ (x.priority < b.priority)) (λ x. matches x k ≡ true → (x ≡ r) ⊎ (x.priority < r.priority))
            (λ x f t. inr (⊎_elim (λ q. subst (λ y. y.priority < r.priority) (sym q) l) (λ q. below x l q) (f t))) rs s.2,
      ),
    ))
    (λ e. let l = ltb-false b.priority r.priority e in (
      has_append_right (r ∷ []) rs b s.0,
      s.1,
      ((λ _. inr (⊎_elim (λ q. absurd (priorities_differ r b k (all-has (Untied r) rs b u s.0) m s.1 q)) (⊎_elim (λ q. q) (λ q. absurd (never l q))) (cases_order r.priority b.priority))), s.2),
    ))
  where
    below : (x : Rule) → b.priority < r.priority → x.priority < b.priority → x.priority < r.priority
    below x p q = omega arith

    never : r.priority ≤ b.priority → b.priority < r.priority → ⊥
    never p q = omega arith

pub said_best : (rs : List Rule) (k : List ℕ) → Pairs Untied rs → Said rs k (best rs k)
unfolding best
said_best [] k u = tt
said_best (r ∷ rs) k u =
    cond_both (matches r k) (higher r (best rs k)) (best rs k) (Said (r ∷ rs) k)
    (λ m. said_more r rs k (best rs k) m u.0 (said_best rs k u.1)) (λ m. said_skip r rs k (best rs k) m (said_best rs k u.1))

decided_from_said : (rs : List Rule) (k : List ℕ) (o : Option Rule) → Said rs k o → Decided rs k o
decided_from_said rs k None s = λ r h. all-has (λ r. matches r k ≡ false) rs r s h
decided_from_said rs k (Some b) s =
    record {
      one_of = s.0;
      covers = s.1;
      highest = λ r h m ne. ⊎_elim (λ e. absurd (ne e)) (λ l. l)
          (all-has (λ r. matches r k ≡ true → (r ≡ b) ⊎ (r.priority < b.priority)) rs r s.2 h m);
    }

pub best_decides : BestDecides
best_decides rs k l = decided_from_said rs k (best rs k) (said_best rs k (pairs_from_apart rs l.apart))
