-- Paying: what the rules are once the entries were paid.
use Rattle.std.proofs.Common.{◌≡◌, ℕ, zero, suc, ◌<◌, List, [], ◌∷◌, Some, None, Option, IfSome, length, get_or, set, sym, refl, ap, ◌∙◌, ap₂, arith}
use Rattle.std.proofs.lemmas.List.{set-get_or}
use Rattle.classifier.specs.Tables.{plus}
use Rattle.datapath.specs.Walk.{TablesOf, LawfulTables, walk, Alike, Tells, due}
use Rattle.datapath.specs.Entries.{TrueEntry}
use Rattle.datapath.specs.Entries as level
use Rattle.datapath.proofs.WalkLaws.{walk_due, due_alike, due_swap, due_join, due_none, alike_due, tells_due, true_due}
use Rattle.datapath.proofs.Lawfuls.{lawful_due}
use Rattle.cache.specs.declared.slot.Entry.{Entry}
use Rattle.cache.specs.declared.slot.Slot.{Slot}
use Rattle.cache.specs.Slots.{owed_to, owed, paid}

-- the order of paying does not matter ----------------------------------------------------------------------------

owed_due : (ts : TablesOf) (o : Option Entry) (k : List ℕ) (n : ℕ) → owed_to (due ts k n) o ≡ due (owed_to ts o) k n
owed_due ts None k n = refl
owed_due ts (Some e) k n = due_swap ts k e.value n e.held

pub paid_due : (ts : TablesOf) (ss : List Slot) (k : List ℕ) (n : ℕ) → paid (due ts k n) ss ≡ due (paid ts ss) k n
unfolding paid
paid_due ts [] k n = refl
paid_due ts (s ∷ ss) k n = ap (λ us. paid us ss) (owed_due ts s.entry k n) ∙ paid_due (owed ts s) ss k n

pub paid_owed : (ts : TablesOf) (ss : List Slot) (s : Slot) → paid (owed ts s) ss ≡ owed (paid ts ss) s
paid_owed ts ss s = by s.entry
  where
    by : (o : Option Entry) → paid (owed_to ts o) ss ≡ owed_to (paid ts ss) o
    by None = refl
    by (Some e) = paid_due ts ss e.value e.held

-- a slot apart from the others: the rules with it are those with a slot that is not filled, once it was paid
pub paid_set : (ts : TablesOf) (ss : List Slot) (i : ℕ) (s z : Slot) → i < length ss → z.entry ≡ None → paid ts (set ss i s) ≡ owed (paid ts (set ss i z)) s
unfolding paid
paid_set ts [] i s z l e = absurd (omega arith)
paid_set ts (x ∷ ss) zero s z l e = paid_owed ts ss s ∙ ap (λ o. owed (paid (owed_to ts o) ss) s) (sym e)
paid_set ts (x ∷ ss) (suc i) s z l e = paid_set (owed ts x) ss i s z (omega arith) e

pub paid_get : (ts : TablesOf) (ss : List Slot) (i : ℕ) (d z : Slot) → i < length ss → z.entry ≡ None → paid ts ss ≡ owed (paid ts (set ss i z)) (get_or ss i d)
unfolding paid
paid_get ts [] i d z l e = absurd (omega arith)
paid_get ts (x ∷ ss) zero d z l e = paid_owed ts ss x ∙ ap (λ o. owed (paid (owed_to ts o) ss) x) (sym e)
paid_get ts (x ∷ ss) (suc i) d z l e = paid_get (owed ts x) ss i d z (omega arith) e

-- paying changes no walk -----------------------------------------------------------------------------------------

-- what no credit changes is the same once every entry was paid
paid_keeps : (P : TablesOf → Type 0) → ((us : TablesOf) (k : List ℕ) (n : ℕ) → P us → P (due us k n)) → (ts : TablesOf) (ss : List Slot) → P ts → P (paid ts ss)
unfolding paid
paid_keeps P keep ts [] p = p
paid_keeps P keep ts (s ∷ ss) p = paid_keeps P keep (owed ts s) ss (by s.entry)
  where
    by : (o : Option Entry) → P (owed_to ts o)
    by None = p
    by (Some e) = keep ts e.value e.held p

pub walk_paid : (ts : TablesOf) (ss : List Slot) (q : List ℕ) → walk (paid ts ss) q ≡ walk ts q
walk_paid ts ss q = paid_keeps (λ us. walk us q ≡ walk ts q) (λ us k n p. walk_due us k n q ∙ p) ts ss refl

alike_paid : (ts : TablesOf) (ss : List Slot) (p q : List ℕ) → Alike ts p q → Alike (paid ts ss) p q
alike_paid ts ss p q = paid_keeps (λ us. Alike us p q) (λ us k n. alike_due us k n p q) ts ss

pub tells_paid : (ts : TablesOf) (ss : List Slot) (k m : List ℕ) → Tells ts k m → Tells (paid ts ss) k m
tells_paid ts ss k m = paid_keeps (λ us. Tells us k m) (λ us v n. tells_due us v n k m) ts ss

pub true_paid : (ts : TablesOf) (ss : List Slot) (e : level.Entry) → TrueEntry ts e → TrueEntry (paid ts ss) e
true_paid ts ss e = paid_keeps (λ us. TrueEntry us e) (λ us v n. true_due us v n e) ts ss

pub lawful_paid : (ts : TablesOf) (ss : List Slot) → LawfulTables ts → LawfulTables (paid ts ss)
lawful_paid = paid_keeps LawfulTables lawful_due

-- what happens to one slot ------------------------------------------------------------------------------------------

-- an entry that is paid leaves: the rules with all entries paid are the same
pub paid_left : (ts : TablesOf) (ss : List Slot) (i : ℕ) (d z : Slot) (e : Entry) → i < length ss → z.entry ≡ None → (get_or ss i d).entry ≡ Some e → paid (due ts e.value e.held) (set ss i z) ≡ paid ts ss
paid_left ts ss i d z e l f g =
    paid_due ts (set ss i z) e.value e.held ∙ sym (paid_get ts ss i d z l f ∙ ap (owed_to (paid ts (set ss i z))) g)

-- an entry that holds nothing comes into an unfilled slot, or none does: the same
pub paid_filled : (ts : TablesOf) (ss : List Slot) (i : ℕ) (d s : Slot) → i < length ss → LawfulTables ts → (get_or ss i d).entry ≡ None → IfSome s.entry (λ e. e.held ≡ 0) → paid ts (set ss i s) ≡ paid ts ss
paid_filled ts ss i d s l lawful f h =
    paid_set ts ss i s (get_or ss i d) l f
    ∙ nothing (paid ts (set ss i (get_or ss i d))) (lawful_paid ts (set ss i (get_or ss i d)) lawful) s.entry h
    ∙ ap (paid ts) (set-get_or ss i d)
  where
    nothing : (us : TablesOf) → LawfulTables us → (o : Option Entry) → IfSome o (λ e. e.held ≡ 0) → owed_to us o ≡ us
    nothing us w None h = refl
    nothing us w (Some e) h = ap (due us e.value) h ∙ due_none us e.value w.each

-- an entry answers a key that is treated like its value, and holds one more: 1 more for each rule that the key crosses
pub paid_hit : (ts : TablesOf) (ss : List Slot) (i : ℕ) (d s z : Slot) (old e : Entry) (k : List ℕ) → i < length ss → z.entry ≡ None → (get_or ss i d).entry ≡ Some old → s.entry ≡ Some e → e.value ≡ old.value → e.held ≡ plus old.held 1 → Alike ts old.value k → paid ts (set ss i s) ≡ due (paid ts ss) k 1
paid_hit ts ss i d s z old e k l f g h v m a =
    let rest = paid ts (set ss i z) in
    paid_set ts ss i s z l f ∙ ap (owed_to rest) h ∙ ap₂ (due rest) v m ∙ sym (due_join rest old.value old.held 1)
    ∙ ap (λ us. due us old.value 1) (sym (paid_get ts ss i d z l f ∙ ap (owed_to rest) g))
    ∙ due_alike (paid ts ss) old.value k 1 (alike_paid ts ss old.value k a)
