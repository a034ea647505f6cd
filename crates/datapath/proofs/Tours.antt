-- The walk over classifiers: what a loop over the tables keeps, of the rules crossed and of the mask that is given.
use Rattle.std.proofs.Common.{◌≡◌, ℕ, suc, ◌<◌, List, [], ◌∷◌, ◌++◌, map, length, get_or, Some, None, Option, sym, ap, ◌∙◌, subst, arith}
use lib.Bits.{bit_or}
use Rattle.std.specs.List.{AllByRecursion}
use Rattle.std.proofs.ByRecursion.{All-push}
use Rattle.std.proofs.lemmas.List.{get_or-map, length-map}
use Rattle.flow.specs.Masks.{union, empty_mask}
use Rattle.classifier.specs.declared.rule.Rule.{Rule}
use Rattle.classifier.specs.declared.rule.Match.{Match}
use Rattle.classifier.specs.Rules.{found, Adequate}
use Rattle.datapath.specs.declared.level.Mark.{Mark}
use Rattle.datapath.specs.Walk.{table_of, mark_of, walk, ports_of, Tells, Forward}
use Rattle.datapath.specs.Given.{TableGives, Joins, WalkGives}
use Rattle.datapath.proofs.Givens.{table_gives_at, joins_stop, joins_last, joins_onward, joins_end}
use Rattle.datapath.proofs.Nexts.{found_next}
use Rattle.datapath.proofs.Steps.{Going, begin, stop, last, onward, over}

module _ {C : Type 0} (gives : C → List ℕ → List ℕ → Type 0) (rules : C → List Rule) (cs : List C) (k : List ℕ) where
  -- the walk is over: xs are the rules crossed, p their ports, m the mask
  pub record Toured (xs : List Mark) (p : ℕ) (m : List ℕ) : Type 0 where
    pub crossed : xs ≡ walk (map rules cs) k
    pub ports : p ≡ ports_of (walk (map rules cs) k)
    pub mask : Tells (map rules cs) k m
    pub given : WalkGives gives rules cs k m
    pub low : AllByRecursion (λ x. x.table < 4) xs

  -- xs are crossed already, with ports p and mask m; the walk goes on at table t, over at most so many tables
  pub record Touring (fuel t p : ℕ) (m : List ℕ) (xs : List Mark) : Type 0 where
    pub in_range : t < 4
    pub low : AllByRecursion (λ x. x.table < 4) xs
    pub going : Going (map rules cs) k fuel t p m xs
    pub joins : (w : List ℕ) → Joins (λ u f. TableGives gives cs u k f) fuel (map rules cs) t k m w → WalkGives gives rules cs k w

  -- the find of table t answered o, with mask f
  pub record Seen (t : ℕ) (f : List ℕ) (o : Option Match) : Type 0 where
    pub rule : found (table_of (map rules cs) t) k ≡ o
    pub safe : Adequate (table_of (map rules cs) t) k f
    pub own : TableGives gives cs t k f

  pub seen_at : (t : ℕ) (f : List ℕ) (o : Option Match) (c : C) → t < length cs → c ≡ get_or cs t c → o ≡ found (rules c) k → Adequate (rules c) k f → gives c k f → Seen t f o
  seen_at t f o c l e r a h =
      let at : table_of (map rules cs) t ≡ rules c = get_or-map rules cs t c [] l ∙ ap rules (sym e) in
      record {
        rule = ap (λ rs. found rs k) at ∙ sym r;
        safe = subst (λ rs. Adequate rs k f) (sym at) a;
        own = table_gives_at gives cs t k f c l e h;
      }

  pub tour_begin : (m : List ℕ) → m ≡ empty_mask → Touring 4 0 0 m []
  tour_begin m e =
      record {
        in_range = omega arith;
        low = tt;
        going = subst (λ x. Going (map rules cs) k 4 0 0 x []) (sym e) (begin (map rules cs) k);
        joins = λ w j. subst (λ x. Joins (λ u f. TableGives gives cs u k f) 4 (map rules cs) 0 k x w) e j;
      }

  module _ (n f t p : ℕ) (m fm u : List ℕ) (xs : List Mark) (s : Touring n t p m xs) (left : n ≡ suc f) (grown : u ≡ union m fm) where
    going_on : Going (map rules cs) k (suc f) t p m xs
    going_on = subst (λ i. Going (map rules cs) k i t p m xs) left s.going

    back : (w : List ℕ) → Joins (λ v g. TableGives gives cs v k g) (suc f) (map rules cs) t k m w → WalkGives gives rules cs k w
    back w j = s.joins w (subst (λ i. Joins (λ v g. TableGives gives cs v k g) i (map rules cs) t k m w) (sym left) j)

    low_next : (h : Match) → AllByRecursion (λ x. x.table < 4) (xs ++ mark_of t h ∷ [])
    low_next h = All-push (λ x. x.table < 4) xs (mark_of t h) s.low s.in_range

    pub tour_stop : Seen t fm None → Toured xs p u
    tour_stop z =
        let e = stop (map rules cs) k f t p m xs fm going_on z.safe z.rule in
        record {
          crossed = e.crossed;
          ports = e.ports;
          mask = subst (Tells (map rules cs) k) (sym grown) e.mask;
          given = back u (joins_stop (λ v g. TableGives gives cs v k g) f (map rules cs) t k m fm u z.own z.rule (sym grown));
          low = s.low;
        }

    pub tour_last : (h : Match) → Seen t fm (Some h) → h.next ≡ 0 → Toured (xs ++ mark_of t h ∷ []) (bit_or p h.ports) u
    tour_last h z end =
        let e = last (map rules cs) k f t p m xs fm going_on z.safe h z.rule end in
        record {
          crossed = e.crossed;
          ports = e.ports;
          mask = subst (Tells (map rules cs) k) (sym grown) e.mask;
          given = back u (joins_last (λ v g. TableGives gives cs v k g) f (map rules cs) t k m fm u z.own h z.rule end (sym grown));
          low = low_next h;
        }

    pub tour_on : (h : Match) (v : ℕ) → length cs ≡ 4 → Forward 0 (map rules cs) → Seen t fm (Some h) → (h.next ≡ 0 → ⊥) → v ≡ h.next → Touring f v (bit_or p h.ports) u (xs ++ mark_of t h ∷ [])
    tour_on h v four forward z go to =
        let e = onward (map rules cs) k f t p m xs fm going_on z.safe h z.rule go in
        let wide : t < length (map rules cs) = simp length-map (omega (arith, s.in_range)) in
        subst (λ y. Touring f y (bit_or p h.ports) u (xs ++ mark_of t h ∷ [])) (sym to)
        (record {
          in_range = found_next (map rules cs) t k h forward wide z.rule go;
          low = low_next h;
          going = subst (λ x. Going (map rules cs) k f h.next (bit_or p h.ports) x (xs ++ mark_of t h ∷ [])) (sym grown) e;
          joins = λ w j. back w (joins_onward (λ x g. TableGives gives cs x k g) f (map rules cs) t k m fm w z.own h z.rule go (subst (λ x. Joins (λ y g. TableGives gives cs y k g) f (map rules cs) h.next k x w) grown j));
        })

  pub tour_over : (n t p : ℕ) (m : List ℕ) (xs : List Mark) → Touring n t p m xs → n ≡ 0 → Toured xs p m
  tour_over n t p m xs s e =
      let g = over (map rules cs) k t p m xs (subst (λ i. Going (map rules cs) k i t p m xs) e s.going) in
      record {
        crossed = g.crossed;
        ports = g.ports;
        mask = g.mask;
        given = s.joins m (subst (λ i. Joins (λ u f. TableGives gives cs u k f) i (map rules cs) t k m m) (sym e) (joins_end (λ u f. TableGives gives cs u k f) (map rules cs) t k m));
        low = s.low;
      }
