use Rattle.std.proofs.Common.{◌≡◌, ◌<◌, true, length, ap, ◌∙◌, arith, length-set, w64}
use Rattle.std.proofs.lemmas.Int.{to_z-of_z}
use Rattle.std.proofs.lemmas.Bool.{ltb-true}
use Rattle.duality.specs.Tests.{within, all_within, in_order}
use Rattle.reasons.proofs.Setting.{within_set, order_set, ordered_parts}
use Rattle.reasons.proofs.amends.set_rope.Goals as goal

pub invariant_of-terms : goal.invariant_of-terms
invariant_of-terms c =
    let t = c.args.terms.now in
    let i = c.args.index in
    let o = ordered_parts 32768 c.args.l c.args.u c.requires.allowed in
    let rl = to_z-of_z w64 c.args.l c.ranges.l in
    let rh = to_z-of_z w64 c.args.u c.ranges.u in
    let r = ltb-true _ _ c.requires.rope in
    let ll : i < length t.l.items = omega (arith, r, t.lefts.0) in
    let lh : i < length t.u.items = omega (arith, r, t.rights.0) in
    let el = c.set_place.ensures in
    let eh = c.set_place-2.ensures in
    let nl : length c.set_place.new.list.items ≡ length t.l.items = ap length el ∙ length-set t.l.items i _ in
    let nh : length c.set_place-2.new.list.items ≡ length t.u.items = ap length eh ∙ length-set t.u.items i _ in
    let low = ap (all_within 32768) el ∙ within_set 32768 t.l.items i _ ll (ap (within 32768) rl ∙ o.0) t.lefts.1 in
    let high = ap (all_within 32768) eh ∙ within_set 32768 t.u.items i _ lh (ap (within 32768) rh ∙ o.1) t.rights.1 in
    let ordered : in_order c.set_place.new.list.items c.set_place-2.new.list.items ≡ true = rw (el, eh) (order_set t.l.items t.u.items i _ _ ll lh (rw (rl, rh) o.2) t.wide) in
    record {
      some = t.some;
      few = t.few;
      prices = t.prices;
      lefts = (omega (arith, nl, t.lefts.0), low);
      rights = (omega (arith, nh, t.rights.0), high);
      floors = t.floors;
      ceilings = t.ceilings;
      wide = ordered;
      «open» = t.open;
    }
