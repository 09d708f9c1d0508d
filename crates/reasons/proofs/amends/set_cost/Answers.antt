use Rattle.std.proofs.Common.{◌≡◌, ◌<◌, length, ap, ◌∙◌, arith, length-set, w64}
use Rattle.std.proofs.lemmas.Int.{to_z-of_z}
use Rattle.std.proofs.lemmas.Bool.{ltb-true}
use Rattle.duality.specs.Tests.{within, all_within}
use Rattle.reasons.proofs.Setting.{within_set}
use Rattle.reasons.proofs.amends.set_cost.Goals as goal

pub invariant_of-terms : goal.invariant_of-terms
invariant_of-terms c =
    let t = c.args.terms.now in
    let i = c.args.index in
    let lt : i < length t.c.items = ltb-true _ _ c.requires.rope in
    let e = c.set_place.ensures in
    let long : length c.set_place.new.list.items ≡ length t.c.items = ap length e ∙ length-set t.c.items i _ in
    record {
      some = (omega (arith, long, t.some.0), omega (arith, long, t.some.1));
      few = t.few;
      prices = ap (all_within 268435456) e ∙ within_set 268435456 t.c.items i _ lt (ap (within 268435456) (to_z-of_z w64 c.args.c c.ranges.c) ∙ c.requires.allowed) t.prices;
      lefts = (omega (arith, long, t.lefts.0), t.lefts.1);
      rights = (omega (arith, long, t.rights.0), t.rights.1);
      floors = t.floors;
      ceilings = t.ceilings;
      wide = t.wide;
      «open» = t.open;
    }
