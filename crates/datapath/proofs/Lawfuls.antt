-- The tables stay lawful as counts grow.
use Rattle.std.proofs.Common.{◌≡◌, ℕ, zero, suc, ◌<◌, eqb, List, [], ◌∷◌, length, Some, None, Option, refl, ◌∙◌, arith, length-set}
use Rattle.std.specs.List.{AllByRecursion}
use Rattle.std.proofs.ByRecursion.{All-get_or, All-set}
use Rattle.std.proofs.lemmas.Bool.{cond_both, eqb-false}
use Rattle.classifier.specs.declared.rule.Match.{Match}
use Rattle.classifier.specs.Rules.{Lawful, found}
use Rattle.classifier.specs.Tables.{credited}
use Rattle.classifier.specs.LawsLemmas.{lawful_credited}
use Rattle.datapath.specs.declared.level.Mark.{Mark}
use Rattle.datapath.specs.Walk.{TablesOf, table_of, crossing, walk_from, walk, credit_at, credit_along, due, Forward, LawfulTables}
use Rattle.datapath.proofs.Nexts.{found_next}
use Rattle.datapath.proofs.Forwards.{forward_along}

-- every table that a walk crosses is one of the four
low_crossing : (o : Option Match) (t : ℕ) (rest : ℕ → List Mark) → t < 4 → ((h : Match) → o ≡ Some h → (h.next ≡ 0 → ⊥) → AllByRecursion (λ m. m.table < 4) (rest h.next)) → AllByRecursion (λ m. m.table < 4) (crossing t o rest)
low_crossing None t rest b g = tt
low_crossing (Some h) t rest b g = (b, cond_both (eqb h.next 0) [] (rest h.next) (AllByRecursion (λ m. m.table < 4)) (λ _. tt) (λ q. g h refl (eqb-false h.next 0 q)))

low_from : (n : ℕ) (ts : TablesOf) (t : ℕ) (k : List ℕ) → Forward 0 ts → length ts ≡ 4 → t < 4 → AllByRecursion (λ m. m.table < 4) (walk_from n ts t k)
unfolding walk_from
low_from zero ts t k f l b = tt
low_from (suc n) ts t k f l b = low_crossing (found (table_of ts t) k) t (λ u. walk_from n ts u k) b (λ h e z. low_from n ts h.next k f l (found_next ts t k h f (omega (arith, l, b)) e z))

pub low_walk : (ts : TablesOf) (k : List ℕ) → LawfulTables ts → AllByRecursion (λ m. m.table < 4) (walk ts k)
unfolding walk
low_walk ts k l = low_from 4 ts 0 k l.forward l.four (omega arith)

lawful_at : (ts : TablesOf) (t i n : ℕ) → length ts ≡ 4 → t < 4 → AllByRecursion Lawful ts → AllByRecursion Lawful (credit_at ts t i n)
lawful_at ts t i n f l h =
    All-set Lawful ts t (credited (table_of ts t) i n) (lawful_credited (table_of ts t) i n (All-get_or Lawful ts t [] (omega (arith, f, l)) h)) h

each_along : (ms : List Mark) (ts : TablesOf) (n : ℕ) → length ts ≡ 4 → AllByRecursion (λ m. m.table < 4) ms → AllByRecursion Lawful ts → AllByRecursion Lawful (credit_along ts ms n)
unfolding credit_along
each_along [] ts n f l h = h
each_along (m ∷ ms) ts n f l h = each_along ms (credit_at ts m.table m.id n) n (simp length-set f) l.1 (lawful_at ts m.table m.id n f l.0 h)

long_along : (ms : List Mark) (ts : TablesOf) (n : ℕ) → length (credit_along ts ms n) ≡ length ts
unfolding credit_along
long_along [] ts n = refl
long_along (m ∷ ms) ts n = long_along ms (credit_at ts m.table m.id n) n ∙ length-set ts m.table (credited (table_of ts m.table) m.id n)

pub lawful_due : (ts : TablesOf) (k : List ℕ) (n : ℕ) → LawfulTables ts → LawfulTables (due ts k n)
unfolding due
lawful_due ts k n l =
    record {
      four = long_along (walk ts k) ts n ∙ l.four;
      each = each_along (walk ts k) ts n l.four (low_walk ts k l) l.each;
      forward = forward_along (walk ts k) ts n l.forward (low_walk ts k l) l.four;
    }
