-- The laws of the walk and of the counts that it moves: what caches use, so that none of them looks into the walk.
use Rattle.std.proofs.Common.{◌≡◌, ℕ, zero, suc, ◌^◌, ◌<◌, true, false, cond, eqb, List, [], ◌∷◌, ◌++◌, Some, None, Option, sym, refl, ap, ◌∙◌}
use mathlib.Core.Path.{fun_ext}
use Rattle.classifier.specs.declared.rule.Match.{Match}
use Rattle.std.specs.List.{AllByRecursion}
use Rattle.std.proofs.ByRecursion.{All-weaker}
use Rattle.flow.specs.Masks.{Within}
use Rattle.flow.proofs.MaskLaws.{agree_within}
use Rattle.classifier.specs.Rules.{Lawful, SoundRule, found}
use Rattle.classifier.specs.Tables.{plus}
use Rattle.datapath.specs.declared.level.Mark.{Mark}
use Rattle.datapath.specs.Walk.{TablesOf, table_of, crossing, walk_from, walk, ports_of, Alike, Tells, credit_at, credit_along, due}
use Rattle.datapath.specs.Laws.{DecidedThere, WalkLaws}
use Rattle.datapath.specs.Entries.{Entry, TrueEntry, AllTrue}
use Rattle.datapath.proofs.Counts.{credited_swap, credited_join, credited_none, found_credited}

-- Crediting one rule of one table ----------------------------------------------------------------------------------

at_swap : (ts : TablesOf) (t i n u j m : ℕ) → credit_at (credit_at ts t i n) u j m ≡ credit_at (credit_at ts u j m) t i n
at_swap [] t i n u j m = refl
at_swap (x ∷ ts) zero i n zero j m = ap (λ y. y ∷ ts) (credited_swap x i n j m)
at_swap (x ∷ ts) zero i n (suc u) j m = refl
at_swap (x ∷ ts) (suc t) i n zero j m = refl
at_swap (x ∷ ts) (suc t) i n (suc u) j m = ap (λ y. x ∷ y) (at_swap ts t i n u j m)

at_join : (ts : TablesOf) (t i n m : ℕ) → credit_at (credit_at ts t i n) t i m ≡ credit_at ts t i (plus n m)
at_join [] t i n m = refl
at_join (x ∷ ts) zero i n m = ap (λ y. y ∷ ts) (credited_join x i n m)
at_join (x ∷ ts) (suc t) i n m = ap (λ y. x ∷ y) (at_join ts t i n m)

-- every count has 64 bits
abbrev pub CountsFit : TablesOf → Type 0
CountsFit ts = AllByRecursion (λ rs. AllByRecursion (λ r. r.count < 2 ^ 64) rs) ts

at_none : (ts : TablesOf) (t i : ℕ) → CountsFit ts → credit_at ts t i 0 ≡ ts
at_none [] t i h = refl
at_none (x ∷ ts) zero i h = ap (λ y. y ∷ ts) (credited_none x i h.0)
at_none (x ∷ ts) (suc t) i h = ap (λ y. x ∷ y) (at_none ts t i h.1)

at_found : (ts : TablesOf) (t i n u : ℕ) (k : List ℕ) → found (table_of (credit_at ts t i n) u) k ≡ found (table_of ts u) k
at_found [] t i n u k = refl
at_found (x ∷ ts) zero i n zero k = found_credited x i n k
at_found (x ∷ ts) zero i n (suc u) k = refl
at_found (x ∷ ts) (suc t) i n zero k = refl
at_found (x ∷ ts) (suc t) i n (suc u) k = at_found ts t i n u k

at_walk : (f : ℕ) (ts : TablesOf) (t i n u : ℕ) (k : List ℕ) → walk_from f (credit_at ts t i n) u k ≡ walk_from f ts u k
unfolding walk_from
at_walk zero ts t i n u k = refl
at_walk (suc f) ts t i n u k =
    rw (at_found ts t i n u k) (ap (crossing u (found (table_of ts u) k)) (fun_ext (λ v. at_walk f ts t i n v k)))

-- Crediting along a walk -------------------------------------------------------------------------------------------

along_at : (ms : List Mark) (ts : TablesOf) (t i n m : ℕ) → credit_along (credit_at ts t i n) ms m ≡ credit_at (credit_along ts ms m) t i n
unfolding credit_along
along_at [] ts t i n m = refl
along_at (h ∷ ms) ts t i n m = ap (λ y. credit_along y ms m) (at_swap ts t i n h.table h.id m) ∙ along_at ms (credit_at ts h.table h.id m) t i n m

-- one rule more at the walk's end
pub along_push : (ms : List Mark) (h : Mark) (ts : TablesOf) (n : ℕ) → credit_along ts (ms ++ h ∷ []) n ≡ credit_at (credit_along ts ms n) h.table h.id n
unfolding credit_along
along_push [] h ts n = refl
along_push (g ∷ ms) h ts n = along_push ms h (credit_at ts g.table g.id n) n

along_swap : (ms ns : List Mark) (ts : TablesOf) (n m : ℕ) → credit_along (credit_along ts ms n) ns m ≡ credit_along (credit_along ts ns m) ms n
unfolding credit_along
along_swap [] ns ts n m = refl
along_swap (h ∷ ms) ns ts n m = along_swap ms ns (credit_at ts h.table h.id n) n m ∙ ap (λ y. credit_along y ms n) (along_at ns ts h.table h.id n m)

along_join : (ms : List Mark) (ts : TablesOf) (n m : ℕ) → credit_along (credit_along ts ms n) ms m ≡ credit_along ts ms (plus n m)
unfolding credit_along
along_join [] ts n m = refl
along_join (h ∷ ms) ts n m =
    ap (λ y. credit_along y ms m) (sym (along_at ms (credit_at ts h.table h.id n) h.table h.id m n) ∙ ap (λ y. credit_along y ms n) (at_join ts h.table h.id n m))
    ∙ along_join ms (credit_at ts h.table h.id (plus n m)) n m

along_none : (ms : List Mark) (ts : TablesOf) → CountsFit ts → credit_along ts ms 0 ≡ ts
unfolding credit_along
along_none [] ts h = refl
along_none (x ∷ ms) ts h = ap (λ y. credit_along y ms 0) (at_none ts x.table x.id h) ∙ along_none ms ts h

along_walk : (ms : List Mark) (ts : TablesOf) (n f u : ℕ) (k : List ℕ) → walk_from f (credit_along ts ms n) u k ≡ walk_from f ts u k
unfolding credit_along
along_walk [] ts n f u k = refl
along_walk (x ∷ ms) ts n f u k = along_walk ms (credit_at ts x.table x.id n) n f u k ∙ at_walk f ts x.table x.id n u k

-- What caches use ------------------------------------------------------------------------------------------------

-- counts change no walk
pub walk_due : (ts : TablesOf) (k : List ℕ) (n : ℕ) (q : List ℕ) → walk (due ts k n) q ≡ walk ts q
unfolding walk due
walk_due ts k n q = along_walk (walk ts k) ts n 4 0 q

-- keys that are treated alike move the same counts
pub due_alike : (ts : TablesOf) (k q : List ℕ) (n : ℕ) → Alike ts k q → due ts k n ≡ due ts q n
unfolding due Alike
due_alike ts k q n e = ap (λ w. credit_along ts w n) e

-- the order of credits does not matter
pub due_swap : (ts : TablesOf) (k q : List ℕ) (n m : ℕ) → due (due ts k n) q m ≡ due (due ts q m) k n
unfolding due
due_swap ts k q n m =
    ap (λ w. credit_along (credit_along ts (walk ts k) n) w m) (walk_due_open ts k n q)
    ∙ along_swap (walk ts k) (walk ts q) ts n m
    ∙ ap (λ w. credit_along (credit_along ts (walk ts q) m) w n) (sym (walk_due_open ts q m k))
  where
    walk_due_open : (us : TablesOf) (x : List ℕ) (a : ℕ) (y : List ℕ) → walk (credit_along us (walk us x) a) y ≡ walk us y
    walk_due_open us x a y = walk_due us x a y

-- two credits at one key are one
pub due_join : (ts : TablesOf) (k : List ℕ) (n m : ℕ) → due (due ts k n) k m ≡ due ts k (plus n m)
unfolding due
due_join ts k n m = ap (λ w. credit_along (credit_along ts (walk ts k) n) w m) (walk_due ts k n k) ∙ along_join (walk ts k) ts n m

-- counts of lawful tables fit
pub counts_fit : (ts : TablesOf) → AllByRecursion Lawful ts → CountsFit ts
counts_fit [] h = tt
counts_fit (x ∷ ts) h = (All-weaker SoundRule (λ r. r.count < 2 ^ 64) (λ r s. s.count_fits) x h.0.sound, counts_fit ts h.1)

-- a credit of 0 is none
pub due_none : (ts : TablesOf) (k : List ℕ) → AllByRecursion Lawful ts → due ts k 0 ≡ ts
unfolding due
due_none ts k h = along_none (walk ts k) ts (counts_fit ts h)

pub alike_refl : (ts : TablesOf) (k : List ℕ) → Alike ts k k
unfolding Alike
alike_refl ts k = refl

pub alike_sym : (ts : TablesOf) (k q : List ℕ) → Alike ts k q → Alike ts q k
unfolding Alike
alike_sym ts k q e = sym e

pub alike_trans : (ts : TablesOf) (k q p : List ℕ) → Alike ts k q → Alike ts q p → Alike ts k p
unfolding Alike
alike_trans ts k q p e f = e ∙ f

pub ports_alike : (ts : TablesOf) (k q : List ℕ) → Alike ts k q → ports_of (walk ts k) ≡ ports_of (walk ts q)
unfolding Alike
ports_alike ts k q e = ap ports_of e

-- counts change neither what is alike, nor what a mask tells, nor the truth of an entry
pub alike_due : (ts : TablesOf) (k : List ℕ) (n : ℕ) (p q : List ℕ) → Alike ts p q → Alike (due ts k n) p q
unfolding Alike
alike_due ts k n p q e = walk_due ts k n p ∙ e ∙ sym (walk_due ts k n q)

pub alike_before : (ts : TablesOf) (k : List ℕ) (n : ℕ) (p q : List ℕ) → Alike (due ts k n) p q → Alike ts p q
unfolding Alike
alike_before ts k n p q e = sym (walk_due ts k n p) ∙ e ∙ walk_due ts k n q

pub tells_due : (ts : TablesOf) (k : List ℕ) (n : ℕ) (p m : List ℕ) → Tells ts p m → Tells (due ts k n) p m
unfolding Tells
tells_due ts k n p m h q b e = alike_due ts k n p q (h q b e)

-- a mask with more bits tells as much
pub tells_within : (ts : TablesOf) (k m o : List ℕ) → Within m o → Tells ts k m → Tells ts k o
unfolding Tells
tells_within ts k m o w h q b e = h q b (agree_within m o k q w e)

pub true_due : (ts : TablesOf) (k : List ℕ) (n : ℕ) (e : Entry) → TrueEntry ts e → TrueEntry (due ts k n) e
unfolding TrueEntry
true_due ts k n e h q b c = (alike_due ts k n e.value q (h q b c).0, ap ports_of (walk_due ts k n q) ∙ (h q b c).1)

pub all_true_due : (ts : TablesOf) (k : List ℕ) (n : ℕ) (es : List Entry) → AllTrue ts es → AllTrue (due ts k n) es
unfolding AllTrue
all_true_due ts k n es h = All-weaker (TrueEntry ts) (TrueEntry (due ts k n)) (λ e. true_due ts k n e) es h

-- What is crossed -----------------------------------------------------------------------------------------------

crossed_next : (ts : TablesOf) (k : List ℕ) (w : ℕ → List Mark) (t : ℕ) (o : Option Match) → found (table_of ts t) k ≡ o → ((u : ℕ) → AllByRecursion (DecidedThere ts k) (w u)) → AllByRecursion (DecidedThere ts k) (crossing t o w)
crossed_next ts k w t None e h = tt
crossed_next ts k w t (Some m) e h =
    (e, elim (eqb m.next 0) as (λ b. AllByRecursion (DecidedThere ts k) (cond b [] (w m.next))) [ true ↦ tt | false ↦ h m.next ])

crossed_there : (f : ℕ) (ts : TablesOf) (t : ℕ) (k : List ℕ) → AllByRecursion (DecidedThere ts k) (walk_from f ts t k)
unfolding walk_from
crossed_there zero ts t k = tt
crossed_there (suc f) ts t k = crossed_next ts k (λ u. walk_from f ts u k) t (found (table_of ts t) k) refl (λ u. crossed_there f ts u k)

pub walk_laws : WalkLaws
unfolding walk
walk_laws =
    record {
      decided = λ ts k. crossed_there 4 ts 0 k;
      counts_aside = λ ts k q n. walk_due ts k n q;
      same_counts = due_alike;
      any_order = due_swap;
      joined = due_join;
    }
