use Rattle.std.proofs.Common.{sym, ap, ◌∙◌}
use Rattle.std.proofs.lemmas.Bool.{eqb-true, eqb-false}
use Rattle.eviction.specs.Bitmaps.{in_set}
use Rattle.eviction.specs.Faces.{face}
use Rattle.eviction.specs.BitmapLaws.{in_set_none, in_set_below, in_set_some}
use Rattle.eviction.proofs.SweepLaws.{ends_from, stops_from, ends_stops, picked_none, picked_from, picked_third}
use Rattle.eviction.proofs.clock.methods.ClockPolicy.pick.Goals as goal

pub returns-then-is_empty : goal.returns-then-is_empty
returns-then-is_empty c =
    let k = c.args.self.now in
    let p = picked_none (face k) k.round (λ i. ap (λ n. in_set n i) (eqb-true k.filled.bits 0 (sym c.is_empty.ensures ∙ c.if-is_empty.true)) ∙ in_set_none i) in
    record { set = p.kept; named = p.named; picked = p.slot; clock = p.clock }

pub returns-in-Some : goal.returns-in-Some
returns-in-Some c =
    let k = c.args.self.now in
    let d = face c.to_end.new.clock in
    let w = stops_from (face k) d c.in-Some.slot k.round k.marked c.in-Some.ensures in
    let p = picked_from (face k) d c.in-Some.slot k.round (λ i. in_set_below 128 k.filled.bits i k.filled.wide) w in
    record { set = p.kept; named = p.named; picked = p.slot; clock = p.clock }

pub returns-in-Some-to_end : goal.returns-in-Some-to_end
returns-in-Some-to_end c =
    let k = c.args.self.now in
    let m = c.to_end.new.clock in
    let e = face c.to_end-2.new.clock in
    let s = c.in-Some-to_end.slot in
    let w = ends_stops (face k) (face m) e s (ends_from (face k) (face m) k.round k.marked c.in_default.ensures) (stops_from (face m) e s m.round m.marked c.in-Some-to_end.ensures) in
    let p = picked_from (face k) e s k.round (λ i. in_set_below 128 k.filled.bits i k.filled.wide) w in
    record { set = p.kept; named = p.named; picked = p.slot; clock = p.clock }

pub returns : goal.returns
returns c =
    let k = c.args.self.now in
    let m = c.to_end.new.clock in
    let n = c.to_end-2.new.clock in
    let p =
    picked_third (face k) (face m) (face n) (face c.to_end-3.new.clock) c.to_end-3.result k.round
    (λ i. in_set_below 128 k.filled.bits i k.filled.wide) (in_set_some k.filled.bits k.filled.wide (eqb-false k.filled.bits 0 (sym c.is_empty.ensures ∙ c.if-is_empty.false)))
    (ends_from (face k) (face m) k.round k.marked c.in_default.ensures)
    (ends_from (face m) (face n) m.round m.marked c.in_default-to_end.ensures)
    n.round n.marked c.to_end-3.ensures in
    record { set = p.kept; named = p.named; picked = p.slot; clock = p.clock }
