-- Laws of the sweep of a clock's hand.
use Rattle.std.proofs.Common.{◌≡◌, ℕ, zero, suc, ◌+◌, ◌-◌, ◌%◌, ◌<◌, ◌≤◌, Bool, true, false, not, ◌&&◌, eqb, ltb, leb, is_some, IfSome, Some, None, Option, sym, refl, ap, ◌∙◌, subst, ap₂, ⊎_elim, arith, MatchOption}
use mathlib.Core.Path.{fun_ext}
use Rattle.std.proofs.lemmas.Bool.{cases_Bool, cases_eq, both_ways, cond-true, cond-false, eq-eqb, ne_eqb}
use Rattle.std.proofs.lemmas.Bool.Decides.{nat_tests}
use Rattle.eviction.specs.Sets.{without_slot, without_between, Covered}
use Rattle.eviction.specs.Clocks.{Face, Swept, passed, cleared, sweep, clock_pick}
use Rattle.eviction.specs.Runs.{Ended, Stopped}

-- no slot from the hand on could be picked, and the sweep goes on from slot 0
pub record Ends (c d : Face) : Type 0 where
  pub marked : Covered c.filled c.marks c.hand 128
  pub start : d.hand ≡ 0
  pub same : d.filled ≡ c.filled
  pub left : d.marks ≡ without_between c.marks c.hand 128
  pub onward : (n : ℕ) → sweep ((128 - c.hand) + n) c ≡ sweep n d

-- the hand picks the slot after some steps
pub record Stops (c d : Face) (s : ℕ) : Type 0 where
  pub same : d.filled ≡ c.filled
  pub steps : ℕ
  pub picks : sweep steps c ≡ record { picked = Some s; clock = d }

-- the three steps of the hand
pub sweep_picks : (n : ℕ) (c : Face) → c.filled c.hand ≡ true → c.marks c.hand ≡ false → sweep (suc n) c ≡ record { picked = Some c.hand; clock = passed c }
unfolding sweep
sweep_picks n c f m =
    cond-true (c.filled c.hand) _ _ f ∙ cond-false (c.marks c.hand) _ _ m

pub sweep_clears : (n : ℕ) (c : Face) → c.filled c.hand ≡ true → c.marks c.hand ≡ true → sweep (suc n) c ≡ sweep n (cleared c)
unfolding sweep
sweep_clears n c f m =
    cond-true (c.filled c.hand) _ _ f ∙ cond-true (c.marks c.hand) _ _ m

pub sweep_passes : (n : ℕ) (c : Face) → c.filled c.hand ≡ false → sweep (suc n) c ≡ sweep n (passed c)
unfolding sweep
sweep_passes n c f = cond-false (c.filled c.hand) _ _ f

-- what holds of the end of each way holds of the end of the sweep
by_way : (n : ℕ) (c : Face) (P : Swept → Type 0)
    → (c.filled c.hand ≡ true → P (record { picked = Some c.hand; clock = passed c }))
    → P (sweep n (cleared c)) → P (sweep n (passed c)) → P (sweep (suc n) c)
by_way n c P a b d =
    ⊎_elim
    (λ (f : c.filled c.hand ≡ true).
    ⊎_elim (λ (m : c.marks c.hand ≡ true). subst P (sym (sweep_clears n c f m)) b)
    (λ (m : c.marks c.hand ≡ false). subst P (sym (sweep_picks n c f m)) (a f))
    (cases_Bool (c.marks c.hand)))
    (λ (f : c.filled c.hand ≡ false). subst P (sym (sweep_passes n c f)) d)
    (cases_Bool (c.filled c.hand))

-- what it picks is filled
pub sweep_filled : (n : ℕ) (c : Face) → IfSome (sweep n c).picked (λ s. c.filled s ≡ true)
unfolding sweep
sweep_filled zero c = tt
sweep_filled (suc n) c =
    by_way n c (λ r. IfSome r.picked (λ s. c.filled s ≡ true)) (λ f. f) (sweep_filled n (cleared c)) (sweep_filled n (passed c))

-- a filled slot without a mark stops the hand before it comes there again
found_ahead : (d n : ℕ) (c : Face) (s : ℕ) → c.hand < 128 → s < 128 → (c.hand + d) % 128 ≡ s → d < n → c.filled s ≡ true → c.marks s ≡ false → is_some (sweep n c).picked ≡ true
found_ahead d zero c s h k e l f m = absurd (omega arith)
found_ahead zero (suc n) c s h k e l f m =
    let q : c.hand ≡ s = omega arith in
    ap (λ r. is_some r.picked) (sweep_picks n c (ap c.filled q ∙ f) (ap c.marks q ∙ m))
found_ahead (suc d) (suc n) c s h k e l f m =
    by_way n c (λ r. is_some r.picked ≡ true) (λ _. refl)
    (found_ahead d n (cleared c) s (omega arith) k (omega arith) (omega arith) f (ap (λ t. t && not (eqb s c.hand)) m))
    (found_ahead d n (passed c) s (omega arith) k (omega arith) (omega arith) f m)

-- a filled slot stops the hand, at the latest when it comes there again
found_round : (d n : ℕ) (c : Face) (s : ℕ) → c.hand < 128 → s < 128 → (c.hand + d) % 128 ≡ s → d + 128 < n → c.filled s ≡ true → is_some (sweep n c).picked ≡ true
found_round d zero c s h k e l f = absurd (omega arith)
found_round zero (suc n) c s h k e l f =
    let q : c.hand ≡ s = omega arith in
    ⊎_elim
    (λ (m : c.marks s ≡ true).
    ap (λ r. is_some r.picked) (sweep_clears n c (ap c.filled q ∙ f) (ap c.marks q ∙ m))
    ∙ found_ahead 127 n (cleared c) s (omega arith) k (omega arith) (omega arith) f
    (ap (λ t. t && not (eqb s c.hand)) m ∙ ap not (eq-eqb s c.hand (sym q))))
    (λ (m : c.marks s ≡ false).
    ap (λ r. is_some r.picked) (sweep_picks n c (ap c.filled q ∙ f) (ap c.marks q ∙ m)))
    (cases_Bool (c.marks s))
found_round (suc d) (suc n) c s h k e l f =
    by_way n c (λ r. is_some r.picked ≡ true) (λ _. refl)
    (found_round d n (cleared c) s (omega arith) k (omega arith) (omega arith) f)
    (found_round d n (passed c) s (omega arith) k (omega arith) (omega arith) f)

-- in two rounds the hand finds a slot, if one is filled
pub pick_finds : (c : Face) (s : ℕ) → c.hand < 128 → s < 128 → c.filled s ≡ true → is_some (clock_pick c).picked ≡ true
unfolding clock_pick
pick_finds c s h k f = found_round ((s + 128 - c.hand) % 128) 256 c s h k (omega arith) (omega arith) f

no_step : (c : Face) → is_some (sweep 0 c).picked ≡ true → ⊥
unfolding sweep
no_step c e = both_ways false refl e

-- two sweeps from one face that find a slot end alike
pub settled : (m n : ℕ) (c : Face) → is_some (sweep m c).picked ≡ true → is_some (sweep n c).picked ≡ true → sweep m c ≡ sweep n c
settled zero n c a b = absurd (no_step c a)
settled (suc m) zero c a b = absurd (no_step c b)
settled (suc m) (suc n) c a b =
    ⊎_elim
    (λ (f : c.filled c.hand ≡ true).
    ⊎_elim
    (λ (k : c.marks c.hand ≡ true).
    let x = sweep_clears m c f k in
    let y = sweep_clears n c f k in
    x ∙ settled m n (cleared c) (sym (ap (λ r. is_some r.picked) x) ∙ a) (sym (ap (λ r. is_some r.picked) y) ∙ b) ∙ sym y)
    (λ (k : c.marks c.hand ≡ false). sweep_picks m c f k ∙ sym (sweep_picks n c f k))
    (cases_Bool (c.marks c.hand)))
    (λ (f : c.filled c.hand ≡ false).
    let x = sweep_passes m c f in
    let y = sweep_passes n c f in
    x ∙ settled m n (passed c) (sym (ap (λ r. is_some r.picked) x) ∙ a) (sym (ap (λ r. is_some r.picked) y) ∙ b) ∙ sym y)
    (cases_Bool (c.filled c.hand))

-- with no filled slot the hand goes round
idle : (n : ℕ) (c : Face) → c.hand < 128 → ((i : ℕ) → c.filled i ≡ false) → sweep n c ≡ record { picked = None; clock = record { hand = (c.hand + n) % 128; filled = c.filled; marks = c.marks } }
unfolding sweep
idle zero c h z = ap (λ k. record { picked = None; clock = record { hand = k; filled = c.filled; marks = c.marks } }) (let e : c.hand ≡ (c.hand + 0) % 128 = omega arith in e)
idle (suc n) c h z =
    sweep_passes n c (z c.hand) ∙ idle n (passed c) (omega arith) z
    ∙ ap (λ k. record { picked = None; clock = record { hand = k; filled = c.filled; marks = c.marks } })
    (let e : ((c.hand + 1) % 128 + n) % 128 ≡ (c.hand + suc n) % 128 = omega arith in e)

pub pick_none : (c : Face) → c.hand < 128 → ((i : ℕ) → c.filled i ≡ false) → clock_pick c ≡ record { picked = None; clock = c }
unfolding clock_pick
pick_none c h z =
    idle 256 c h z
    ∙ ap (λ k. record { picked = None; clock = record { hand = k; filled = c.filled; marks = c.marks } })
    (let e : (c.hand + 256) % 128 ≡ c.hand = omega arith in e)

-- a step over a slot that cannot be picked
over : (n : ℕ) (c : Face) → (c.filled c.hand ≡ true → c.marks c.hand ≡ true) → ((i : ℕ) → c.marks i ≡ true → c.filled i ≡ true) → sweep (suc n) c ≡ sweep n (cleared c)
over n c p q =
    ⊎_elim (λ (f : c.filled c.hand ≡ true). sweep_clears n c f (p f))
    (λ (f : c.filled c.hand ≡ false).
    sweep_passes n c f
    ∙ ap (λ m. sweep n (record { hand = (c.hand + 1) % 128; filled = c.filled; marks = m })) (fun_ext (unmarked f)))
    (cases_Bool (c.filled c.hand))
  where
    unmarked : c.filled c.hand ≡ false → (i : ℕ) → c.marks i ≡ without_slot c.marks c.hand i
    unmarked f i =
        ⊎_elim
        (λ (e : i ≡ c.hand).
        let m : c.marks i ≡ false =
        ⊎_elim (λ (m : c.marks i ≡ true). absurd (both_ways (c.filled c.hand) f (ap c.filled (sym e) ∙ q i m))) (λ (m : c.marks i ≡ false). m) (cases_Bool (c.marks i)) in
        m ∙ sym (ap (λ t. t && not (eqb i c.hand)) m))
        (λ (n : i ≡ c.hand → ⊥). keep (c.marks i) (eqb i c.hand) (ne_eqb i c.hand n))
        (cases_eq i c.hand)
      where
        keep : (t u : Bool) → u ≡ false → t ≡ (t && not u)
        keep true true e = absurd (both_ways true e refl)
        keep true false e = refl
        keep false u e = refl

-- the hand goes over the slots from h up to h + d, none of which can be picked
glide : (d h n : ℕ) (f m : ℕ → Bool) → h + d ≤ 128 → Covered f m h (h + d) → ((i : ℕ) → m i ≡ true → f i ≡ true)
    → sweep (d + n) (record { hand = h % 128; filled = f; marks = m }) ≡ sweep n (record { hand = (h + d) % 128; filled = f; marks = without_between m h (h + d) })
glide zero h n f m l p q =
    ap₂ sweep (let e : 0 + n ≡ n = omega arith in e)
    (ap₂ (λ k g. record { hand = k; filled = f; marks = g }) (let e : h % 128 ≡ (h + 0) % 128 = omega arith in e) (fun_ext (λ i. all_left h i (m i))))
  where
    all_left : (a i : ℕ) (t : Bool) → t ≡ (t && not (leb a i && ltb i (a + 0)))
    all_left a i true = grind (arith, nat_tests)
    all_left a i false = refl
glide (suc d) h n f m l p q =
    let z : h % 128 ≡ h = omega arith in
    let c : Face = record { hand = h; filled = f; marks = m } in
    ap₂ sweep (let e : suc d + n ≡ suc (d + n) = omega arith in e) (ap (λ k. record { hand = k; filled = f; marks = m }) z)
    ∙ over (d + n) c (p h (omega arith) (omega arith)) q
    ∙ glide d (h + 1) n f (without_slot m h) (omega arith) covered inside
    ∙ ap₂ (λ k g. sweep n (record { hand = k; filled = f; marks = g })) (let e : ((h + 1) + d) % 128 ≡ (h + suc d) % 128 = omega arith in e)
    (fun_ext (λ i. one_more h d i (m i)))
  where
    both : (t u : Bool) → t ≡ true → u ≡ false → (t && not u) ≡ true
    both true true a b = sym b
    both true false a b = refl
    both false u a b = a

    covered : Covered f (without_slot m h) (h + 1) ((h + 1) + d)
    covered i a b s = both (m i) (eqb i h) (p i (omega arith) (omega arith) s) (ne_eqb i h (λ e. omega arith))

    left_part : (t u : Bool) → (t && u) ≡ true → t ≡ true
    left_part true u e = refl
    left_part false u e = e

    inside : (i : ℕ) → without_slot m h i ≡ true → f i ≡ true
    inside i e = q i (left_part (m i) (not (eqb i h)) e)

    one_more : (a b i : ℕ) (t : Bool) → ((t && not (eqb i a)) && not (leb (a + 1) i && ltb i ((a + 1) + b))) ≡ (t && not (leb a i && ltb i (a + suc b)))
    one_more a b i true = grind (arith, nat_tests)
    one_more a b i false = refl

pub ends_from : (c d : Face) → c.hand < 128 → ((i : ℕ) → c.marks i ≡ true → c.filled i ≡ true) → Ended c d → Ends c d
ends_from c d l q p =
    let h = c.hand in
    let w : h + (128 - h) ≡ 128 = omega arith in
    record {
      marked = p.marked;
      start = ap (λ g. g.hand) p.clock;
      same = ap (λ g. g.filled) p.clock;
      left = ap (λ g. g.marks) p.clock;
      onward = λ n.
          ap (λ k. sweep ((128 - h) + n) (record { hand = k; filled = c.filled; marks = c.marks })) (let z : h ≡ h % 128 = omega arith in z)
          ∙ glide (128 - h) h n c.filled c.marks (omega arith) (λ i a b. p.marked i a (omega arith)) q
          ∙ ap (λ k. sweep n (record { hand = k % 128; filled = c.filled; marks = without_between c.marks h k })) w
          ∙ ap (sweep n) (sym p.clock);
    }

pub stops_from : (c d : Face) (s : ℕ) → c.hand < 128 → ((i : ℕ) → c.marks i ≡ true → c.filled i ≡ true) → Stopped c d s → Stops c d s
stops_from c d s l q p =
    let h = c.hand in
    let a = p.unmarked in
    let w : h + (s - h) ≡ s = omega (arith, a.from_on) in
    let e : Face = record { hand = s; filled = c.filled; marks = without_between c.marks h s } in
    record {
      same = ap (λ g. g.filled) p.clock;
      steps = (s - h) + 1;
      picks =
          ap (λ k. sweep ((s - h) + 1) (record { hand = k; filled = c.filled; marks = c.marks })) (let z : h ≡ h % 128 = omega arith in z)
          ∙ glide (s - h) h 1 c.filled c.marks (omega (arith, a.a_slot, a.from_on)) (λ i x y. a.first i x (omega arith)) q
          ∙ ap₂ (λ k g. sweep 1 (record { hand = k; filled = c.filled; marks = without_between c.marks h g })) (let z : (h + (s - h)) % 128 ≡ s = omega (arith, a.a_slot, a.from_on) in z) w
          ∙ sweep_picks 0 e a.inside (ap (λ t. t && not (leb h s && ltb s s)) a.outside)
          ∙ ap (λ g. record { picked = Some s; clock = g }) (sym p.clock);
    }

-- a way to the end of the round, and then to the slot
pub ends_stops : (c d e : Face) (s : ℕ) → Ends c d → Stops d e s → Stops c e s
ends_stops c d e s a b =
    record { same = b.same ∙ a.same; steps = (128 - c.hand) + b.steps; picks = a.onward b.steps ∙ b.picks }

-- three ways to the end of the round, and no slot picked: no slot is filled
pub never_thrice : (c d e g : Face) (i : ℕ) → i < 128 → c.filled i ≡ true → Ends c d → Ends d e → Ends e g → ⊥
never_thrice c d e g i l f x y z =
    let fe : e.filled i ≡ true = ap (λ t. t i) (y.same ∙ x.same) ∙ f in
    let m = z.marked i (omega (arith, y.start)) l fe in
    let gone : e.marks i ≡ false = ap (λ t. t i) y.left ∙ ap (λ k. without_between d.marks k 128 i) x.start ∙ out (d.marks i) in
    both_ways (e.marks i) gone m
  where
    out : (t : Bool) → (t && not (leb 0 i && ltb i 128)) ≡ false
    out true = grind (arith, nat_tests)
    out false = refl

-- what a pick promises of the face before and after it
pub record Picked (c d : Face) (o : Option ℕ) : Type 0 where
  pub kept : (i : ℕ) → d.filled i ≡ c.filled i
  pub named : MatchOption o ((i : ℕ) → c.filled i ≡ false) (λ s. c.filled s ≡ true)
  pub slot : o ≡ (clock_pick c).picked
  pub clock : d ≡ (clock_pick c).clock

pub picked_none : (c : Face) → c.hand < 128 → ((i : ℕ) → c.filled i ≡ false) → Picked c c None
picked_none c h z =
    let e = sym (pick_none c h z) in record { kept = λ i. refl; named = z; slot = ap (λ r. r.picked) e; clock = ap (λ r. r.clock) e }

pub picked_from : (c d : Face) (s : ℕ) → c.hand < 128 → ((i : ℕ) → c.filled i ≡ true → i < 128) → Stops c d s → Picked c d (Some s)
unfolding clock_pick
picked_from c d s h b w =
    let f : c.filled s ≡ true = subst (λ r. IfSome r.picked (λ x. c.filled x ≡ true)) w.picks (sweep_filled w.steps c) in
    let e = sym w.picks ∙ settled w.steps 256 c (ap (λ r. is_some r.picked) w.picks) (pick_finds c s h (b s f) f) in
    record { kept = λ i. ap (λ t. t i) w.same; named = f; slot = ap (λ r. r.picked) e; clock = ap (λ r. r.clock) e }

-- the third way to the end of the round, where a slot is filled
pub picked_third : (c d e g : Face) (o : Option ℕ) → c.hand < 128 → ((i : ℕ) → c.filled i ≡ true → i < 128) → (i : ℕ) × ((i < 128) × (c.filled i ≡ true)) → Ends c d → Ends d e → e.hand < 128 → ((i : ℕ) → e.marks i ≡ true → e.filled i ≡ true) → MatchOption o (Ended e g) (λ s. Stopped e g s) → Picked c g o
picked_third c d e g None h b i x y l q z = absurd (never_thrice c d e g i.0 i.1.0 i.1.1 x y (ends_from e g l q z))
picked_third c d e g (Some s) h b i x y l q z =
    picked_from c g s h b (ends_stops c d g s x (ends_stops d e g s y (stops_from e g s l q z)))
