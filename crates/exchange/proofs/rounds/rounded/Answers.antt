use Rattle.std.proofs.Common.{◌≡◌, length, refl, ◌∙◌, arith, w64, SFits, rules}
use Rattle.std.proofs.lemmas.Int.{to_z-of_z}
use Rattle.exchange.proofs.Filling.{one_filled, all_filled}
use Rattle.exchange.proofs.rounds.rounded.Goals as goal

pub loop-k-init : goal.loop-k-init
loop-k-init c = (refl, refl, refl)

pub loop-k-preserved : goal.loop-k-preserved
loop-k-preserved c =
    let i = c.loop-k.invariant in
    let f : SFits w64 c.nearest.result = search rules in
    one_filled 16 c.loop-k.k c.loop-k.whole c.args.unknowns.now _ (omega (arith, c.requires)) c.loop-k-test.true i.0 i.1 i.2 (to_z-of_z w64 _ f ∙ c.nearest.ensures.value)

pub returns : goal.returns
returns c =
    let i = c.loop-k.invariant in
    let e : c.loop-k.k ≡ length c.args.unknowns.now = omega arith in
    all_filled 16 c.loop-k.k c.loop-k.whole c.args.unknowns.now e i.0 i.1
