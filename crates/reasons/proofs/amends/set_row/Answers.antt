use Rattle.std.proofs.Common.{◌≡◌, ◌<◌, true, length, ap, ◌∙◌, arith, length-set, w64}
use Rattle.std.proofs.lemmas.Int.{to_z-of_z}
use Rattle.std.proofs.lemmas.Bool.{ltb-true}
use Rattle.duality.specs.Tests.{within, all_within, in_order}
use Rattle.reasons.proofs.Setting.{within_set, order_set, ordered_parts}
use Rattle.reasons.proofs.amends.set_row.Goals as goal

pub invariant_of-terms : goal.invariant_of-terms
invariant_of-terms c =
    let t = c.args.terms.now in
    let i = c.args.index in
    let o = ordered_parts 536870912 c.args.lo c.args.hi c.requires.allowed in
    let rl = to_z-of_z w64 c.args.lo c.ranges.lo in
    let rh = to_z-of_z w64 c.args.hi c.ranges.hi in
    let r = ltb-true _ _ c.requires.row in
    let ll : i < length t.lo.items = omega (arith, r) in
    let lh : i < length t.hi.items = omega (arith, r, t.ceilings.0) in
    let el = c.set_place.ensures in
    let eh = c.set_place-2.ensures in
    let nl : length c.set_place.new.list.items ≡ length t.lo.items = ap length el ∙ length-set t.lo.items i _ in
    let nh : length c.set_place-2.new.list.items ≡ length t.hi.items = ap length eh ∙ length-set t.hi.items i _ in
    let low = ap (all_within 536870912) el ∙ within_set 536870912 t.lo.items i _ ll (ap (within 536870912) rl ∙ o.0) t.floors in
    let high = ap (all_within 536870912) eh ∙ within_set 536870912 t.hi.items i _ lh (ap (within 536870912) rh ∙ o.1) t.ceilings.1 in
    let ordered : in_order c.set_place.new.list.items c.set_place-2.new.list.items ≡ true = rw (el, eh) (order_set t.lo.items t.hi.items i _ _ ll lh (rw (rl, rh) o.2) t.open) in
    record {
      some = t.some;
      few = omega (arith, nl, t.few);
      prices = t.prices;
      lefts = t.lefts;
      rights = t.rights;
      floors = low;
      ceilings = (omega (arith, nl, nh, t.ceilings.0), high);
      wide = t.wide;
      «open» = ordered;
    }
