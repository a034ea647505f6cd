-- What a store in the order of looking keeps, from its test and back, and over each change.
use Rattle.std.specs.Prelude.{◌≡◌, ℕ, zero, suc, ◌^◌, ◌<◌, ◌≤◌, Bool, true, false, not, ◌&&◌, ltb, List, [], ◌∷◌, length, None, ◌==◌, nat_le, nat_lt, slice_index, refl}
use Rattle.std.proofs.Common.{sym, ap, subst, ◌∙◌, ⊎_elim, arith}
use Rattle.std.specs.List as holes
use Rattle.std.specs.List.{AllByRecursion, list_all}
use Rattle.std.proofs.lemmas.Bool.{and_parts, and_from, eqb-true, eqb-false, eq-eqb, ne_eqb, ltb-true, lt-ltb, leb-true, le-leb, not-true, not_from_false, cases_Bool}
use Rattle.std.proofs.ByRecursion.{All-from_get_or}
use Rattle.std.proofs.lemmas.List.Edits.{length-remove}
use Rattle.flow.specs.Masks.{Bytes36, Within, inside}
use Rattle.flow.proofs.MaskLaws.{inside_decides}
use Rattle.classifier.specs.declared.rule.Rule.{Rule}
use Rattle.classifier.specs.Rules.{clashing, SoundRule, Lawful, new_rule}
use Rattle.classifier.specs.Tables.{stands, clash, add_refusal, credited}
use Rattle.classifier.specs.Stores.{by_id, before, ranked, bytes_test, sound_test, pair_test, pairs_test, standing}
use Rattle.classifier.specs.Inserts.{Pairs, all_removed, pairs_removed, pairs_weaker}
use Rattle.classifier.specs.ByIdLaws.{Other, length_by_id, all_by_id, pairs_by_id, rising_by_id, fresh_from_stands, stands_by_id}
use Rattle.classifier.specs.BestLaws.{Untied, untied_sym, apart_from_pairs}
use Rattle.classifier.specs.RankLaws.{length_ranked, all_ranked, pairs_ranked, ordered_ranked, clash_ranked}
use Rattle.classifier.specs.LawsLemmas.{untied_admitted, sound_credited, pairs_credited, untied_credited, length_credited}

-- the rules of a store in the order of looking
pub record Stored (xs : List Rule) : Type 0 where
  pub sound : AllByRecursion SoundRule xs
  pub ordered : Pairs (λ r s. before r s ≡ true) xs
  pub other : Pairs Other xs
  pub untied : Pairs Untied xs
  pub few : length xs ≤ 64

all_from_pass : {X : Type 0} (p : X → Bool) (P : X → Type 0) → ((x : X) → p x ≡ true → P x) → (xs : List X) → list_all p xs ≡ true → AllByRecursion P xs
all_from_pass p P step [] h = tt
all_from_pass p P step (x ∷ xs) h =
    let q = and_parts (p x) (list_all p xs) h in (step x q.0, all_from_pass p P step xs q.1)

pass_from_all : {X : Type 0} (p : X → Bool) (P : X → Type 0) → ((x : X) → P x → p x ≡ true) → (xs : List X) → AllByRecursion P xs → list_all p xs ≡ true
pass_from_all p P step [] h = refl
pass_from_all p P step (x ∷ xs) h = and_from (p x) (list_all p xs) (step x h.0) (pass_from_all p P step xs h.1)

each_byte : (xs : List ℕ) → AllByRecursion (λ b. b < 256) xs → (i : ℕ) → slice_index xs i < 256
each_byte [] h i = omega arith
each_byte (x ∷ xs) h zero = h.0
each_byte (x ∷ xs) h (suc i) = each_byte xs h.1 i

bytes_from_test : (xs : List ℕ) → bytes_test xs ≡ true → Bytes36 xs
bytes_from_test xs h =
    let q = and_parts (length xs == 36) (list_all (λ b. ltb b 256) xs) h in
    record {
      long = eqb-true (length xs) 36 q.0;
      bytes = each_byte xs (all_from_pass (λ b. ltb b 256) (λ b. b < 256) (λ b e. ltb-true b 256 e) xs q.1);
    }

pub test_from_bytes : (xs : List ℕ) → Bytes36 xs → bytes_test xs ≡ true
test_from_bytes xs b =
    and_from (length xs == 36) (list_all (λ b. ltb b 256) xs) (eq-eqb (length xs) 36 b.long)
    (pass_from_all (λ b. ltb b 256) (λ b. b < 256) (λ b l. lt-ltb b 256 l) xs (All-from_get_or (λ b. b < 256) xs 0 (λ i _. b.bytes i)))

pub sound_from_test : (r : Rule) → sound_test r ≡ true → SoundRule r
unfolding sound_test
sound_from_test r h =
    let a = and_parts (bytes_test r.mask) (bytes_test r.value && (inside r.value r.mask && (nat_lt r.id (2 ^ 32) && nat_lt r.count (2 ^ 64)))) h in
    let b = and_parts (bytes_test r.value) (inside r.value r.mask && (nat_lt r.id (2 ^ 32) && nat_lt r.count (2 ^ 64))) a.1 in
    let c = and_parts (inside r.value r.mask) (nat_lt r.id (2 ^ 32) && nat_lt r.count (2 ^ 64)) b.1 in
    let d = and_parts (nat_lt r.id (2 ^ 32)) (nat_lt r.count (2 ^ 64)) c.1 in
    record {
      mask_bytes = bytes_from_test r.mask a.0;
      value_bytes = bytes_from_test r.value b.0;
      masked_key = (inside_decides r.value r.mask).0 c.0;
      id_fits = ltb-true r.id (2 ^ 32) d.0;
      count_fits = ltb-true r.count (2 ^ 64) d.1;
    }

pub test_from_sound : (r : Rule) → SoundRule r → sound_test r ≡ true
unfolding sound_test
test_from_sound r s =
    and_from (bytes_test r.mask) (bytes_test r.value && (inside r.value r.mask && (nat_lt r.id (2 ^ 32) && nat_lt r.count (2 ^ 64)))) (test_from_bytes r.mask s.mask_bytes)
    (and_from (bytes_test r.value) (inside r.value r.mask && (nat_lt r.id (2 ^ 32) && nat_lt r.count (2 ^ 64))) (test_from_bytes r.value s.value_bytes)
    (and_from (inside r.value r.mask) (nat_lt r.id (2 ^ 32) && nat_lt r.count (2 ^ 64)) ((inside_decides r.value r.mask).1 s.masked_key)
    (and_from (nat_lt r.id (2 ^ 32)) (nat_lt r.count (2 ^ 64)) (lt-ltb r.id (2 ^ 32) s.id_fits) (lt-ltb r.count (2 ^ 64) s.count_fits))))

-- a new rule of a masked key
pub new_sound : (id priority : ℕ) (mask value : List ℕ) (ports next : ℕ) → id < 2 ^ 32 → Bytes36 mask → Bytes36 value → Within value mask → sound_test (new_rule id priority mask value ports next) ≡ true
new_sound id priority mask value ports next h m v w =
    test_from_sound (new_rule id priority mask value ports next)
    (record { mask_bytes = m; value_bytes = v; masked_key = w; id_fits = h; count_fits = omega arith })

-- what the test of two rules says
abbrev Fit : Rule → Rule → Type 0
Fit r s = (before r s ≡ true) × Other r s × Untied r s

miss : (a b : Bool) → a ≡ true → (a && b) ≡ false → b ≡ false
miss a b e f = sym (ap (λ x. x && b) e) ∙ f

fit_from_test : (r s : Rule) → pair_test r s ≡ true → Fit r s
unfolding pair_test
fit_from_test r s h =
    let a = and_parts (before r s) (not (r.id == s.id) && not (r.priority == s.priority && clashing r s)) h in
    let b = and_parts (not (r.id == s.id)) (not (r.priority == s.priority && clashing r s)) a.1 in (
      a.0,
      eqb-false r.id s.id (not-true (r.id == s.id) b.0),
      λ e. miss (r.priority == s.priority) (clashing r s) (eq-eqb r.priority s.priority e) (not-true (r.priority == s.priority && clashing r s) b.1),
    )

test_from_fit : (r s : Rule) → Fit r s → pair_test r s ≡ true
unfolding pair_test
test_from_fit r s f =
    and_from (before r s) (not (r.id == s.id) && not (r.priority == s.priority && clashing r s)) f.0
    (and_from (not (r.id == s.id)) (not (r.priority == s.priority && clashing r s))
    (not_from_false (r.id == s.id) (ne_eqb r.id s.id f.1))
    (not_from_false (r.priority == s.priority && clashing r s)
    (⊎_elim (λ t. let c = f.2 (eqb-true r.priority s.priority t) in ap (λ x. (r.priority == s.priority) && x) c ∙ ap (λ x. x && false) t)
    (λ e. ap (λ x. x && clashing r s) e) (cases_Bool (r.priority == s.priority)))))

fits_from_test : (xs : List Rule) → pairs_test xs ≡ true → Pairs Fit xs
unfolding pairs_test
fits_from_test [] h = tt
fits_from_test (x ∷ xs) h =
    let q = and_parts (list_all (pair_test x) xs) (pairs_test xs) h in
    (all_from_pass (pair_test x) (Fit x) (fit_from_test x) xs q.0, fits_from_test xs q.1)

test_from_fits : (xs : List Rule) → Pairs Fit xs → pairs_test xs ≡ true
unfolding pairs_test
test_from_fits [] h = refl
test_from_fits (x ∷ xs) h =
    and_from (list_all (pair_test x) xs) (pairs_test xs) (pass_from_all (pair_test x) (Fit x) (test_from_fit x) xs h.0) (test_from_fits xs h.1)

joined : (xs : List Rule) → Pairs (λ r s. before r s ≡ true) xs → Pairs Other xs → Pairs Untied xs → Pairs Fit xs
joined [] a b c = tt
joined (x ∷ xs) a b c = (row xs a.0 b.0 c.0, joined xs a.1 b.1 c.1)
  where
    row : (ys : List Rule) → AllByRecursion (λ s. before x s ≡ true) ys → AllByRecursion (Other x) ys → AllByRecursion (Untied x) ys → AllByRecursion (Fit x) ys
    row [] p q u = tt
    row (y ∷ ys) p q u = ((p.0, q.0, u.0), row ys p.1 q.1 u.1)

pub stored_from_test : (xs : List Rule) → standing xs ≡ true → Stored xs
unfolding standing
stored_from_test xs h =
    let a = and_parts (list_all sound_test xs) (pairs_test xs && nat_le (length xs) 64) h in
    let b = and_parts (pairs_test xs) (nat_le (length xs) 64) a.1 in
    let f = fits_from_test xs b.0 in
    record {
      sound = all_from_pass sound_test SoundRule sound_from_test xs a.0;
      ordered = pairs_weaker (λ r s. before r s ≡ true) Fit (λ r s p. p.0) xs f;
      other = pairs_weaker Other Fit (λ r s p. p.1) xs f;
      untied = pairs_weaker Untied Fit (λ r s p. p.2) xs f;
      few = leb-true (length xs) 64 b.1;
    }

pub test_from_stored : (xs : List Rule) → Stored xs → standing xs ≡ true
unfolding standing
test_from_stored xs s =
    and_from (list_all sound_test xs) (pairs_test xs && nat_le (length xs) 64) (pass_from_all sound_test SoundRule test_from_sound xs s.sound)
    (and_from (pairs_test xs) (nat_le (length xs) 64) (test_from_fits xs (joined xs s.ordered s.other s.untied)) (le-leb (length xs) 64 s.few))

-- a store is lawful
pub lawful_stored : (xs : List Rule) → Stored xs → Lawful (by_id xs)
lawful_stored xs s =
    record {
      sound = all_by_id SoundRule xs s.sound;
      rising = rising_by_id xs s.other;
      apart = apart_from_pairs (by_id xs) (pairs_by_id Untied untied_sym xs s.untied);
      few = subst (λ n. n ≤ 64) (sym (length_by_id xs)) s.few;
    }

-- the same refusals, read off the store
pub add_refusal_stored : (xs : List Rule) (new : Rule) → Stored xs → add_refusal (by_id xs) new ≡ add_refusal xs new
unfolding add_refusal
add_refusal_stored xs new s =
    simp (stands_by_id xs new.id, length_by_id xs, clash_ranked xs new s.other s.ordered)

pub stored_ranked : (xs : List Rule) (new : Rule) → Stored xs → SoundRule new → stands xs new.id ≡ false → length xs < 64 → clash xs new ≡ None → Stored (ranked xs new)
stored_ranked xs new s sd fr rm al =
    let o = fresh_from_stands xs new fr in
    let n = length_ranked xs new in
    record {
      sound = all_ranked SoundRule xs new s.sound sd;
      ordered = ordered_ranked xs new o s.ordered;
      other = pairs_ranked Other (λ x y ne e. ne (sym e)) xs new o s.other;
      untied = pairs_ranked Untied untied_sym xs new (untied_admitted xs new al) s.untied;
      few = omega arith;
    }

pub stored_removed : (xs : List Rule) (i : ℕ) → i < length xs → Stored xs → Stored (holes.remove xs i)
stored_removed xs i h s =
    let f = s.few in
    let n = length-remove xs i h in
    record {
      sound = all_removed SoundRule xs i s.sound;
      ordered = pairs_removed (λ r s. before r s ≡ true) xs i s.ordered;
      other = pairs_removed Other xs i s.other;
      untied = pairs_removed Untied xs i s.untied;
      few = omega arith;
    }

pub stored_credited : (xs : List Rule) (i n : ℕ) → Stored xs → Stored (credited xs i n)
stored_credited xs i n s =
    record {
      sound = sound_credited xs i n s.sound;
      ordered = pairs_credited (λ r s. before r s ≡ true) i n (λ r s p. p) (λ r s p. p) xs s.ordered;
      other = pairs_credited Other i n (λ r s p. p) (λ r s p. p) xs s.other;
      untied = untied_credited xs i n s.untied;
      few = subst (λ m. m ≤ 64) (sym (length_credited xs i n)) s.few;
    }

-- no rule stands
pub standing_none : (xs : List Rule) → xs ≡ [] → standing xs ≡ true
unfolding standing pairs_test
standing_none xs e = ap standing e

pub by_id_none : (xs : List Rule) → xs ≡ [] → by_id xs ≡ []
unfolding by_id
by_id_none xs e = ap by_id e
