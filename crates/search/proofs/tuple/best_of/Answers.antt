use Rattle.std.proofs.Common.{◌+◌, ◌-◌, ◌<◌, sym, ◌∙◌, subst, arith}
use lib.Bits.{and_le_l}
use lib.Count.{count_trailing_zeros}
use Rattle.std.specs.Option.{option_map}
use Rattle.search.specs.Best.{covering}
use Rattle.search.specs.Searches.{seen}
use Rattle.search.proofs.SearchLaws.{Left, ended, place, onward, stepping}
use Rattle.search.proofs.tuple.best_of.Goals as goal

pub bounds-slots-place : goal.bounds-slots-place
bounds-slots-place g c =
    let m = g.E.Element in
    let inv = c.loop-left.invariant in
    place m.level (covering m.masks m.values c.args.mask.now c.args.key.now) c.args.set c.args.slots.now inv.0 c.loop-left.left inv.1 (omega arith) inv.3 c.requires

pub offset_bounds-slots-place : goal.offset_bounds-slots-place
offset_bounds-slots-place g c = let h = bounds-slots-place g c in omega arith

pub loop-left-preserved : goal.loop-left-preserved
loop-left-preserved g c =
    let m = g.E.Element in
    let f = covering m.masks m.values c.args.mask.now c.args.key.now in
    let n = c.loop-left.left in
    let inv = c.loop-left.invariant in
    let p : 0 < n = omega arith in
    let h = place m.level f c.args.set c.args.slots.now inv.0 n inv.1 p inv.3 c.requires in (
      count_trailing_zeros 128 n + 1,
      subst (λ z. Left c.args.set (count_trailing_zeros 128 n + 1) z) (sym c.without_lowest-left.ensures) (onward m.level f c.args.set c.args.slots.now inv.0 n inv.1 p inv.3),
      stepping m.level f c.args.set c.args.slots.now inv.0 n inv.1 p inv.3 (option_map seen c.loop-left.top) (option_map seen c.next-top.result) c.index-slots-place.result h c.index-slots-place.is c.next-top.ensures
          ∙ inv.2,
      omega (arith, inv.3, and_le_l n (n - 1), c.without_lowest-left.ensures),
    )

pub returns : goal.returns
returns g c =
    let m = g.E.Element in
    let inv = c.loop-left.invariant in
    sym (ended m.level (covering m.masks m.values c.args.mask.now c.args.key.now) c.args.set c.args.slots.now inv.0 c.loop-left.left inv.1 (option_map seen c.loop-left.top) (omega arith))
    ∙ inv.2
