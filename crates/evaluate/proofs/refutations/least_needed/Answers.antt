use Rattle.std.proofs.Common.{arith}
use Rattle.terms.proofs.Reading.{many_long}
use Rattle.evaluate.proofs.Slacking.{least_all}
use Rattle.evaluate.proofs.Turning.{least_turn}
use Rattle.evaluate.proofs.refutations.least_needed.Goals as goal

pub overflow_add-total : goal.overflow_add-total
overflow_add-total c =
    (least_turn c.args.terms.now c.args.y.now c.requires c.loop-i.i c.loop-i-test.true _ _ _ _ c.deref.ensures.0 c.deref-in-loop-i.ensures.0 c.loop-i.invariant
    c.lowest-total.ensures).fits

pub loop-i-preserved : goal.loop-i-preserved
loop-i-preserved c =
    (least_turn c.args.terms.now c.args.y.now c.requires c.loop-i.i c.loop-i-test.true _ _ _ _ c.deref.ensures.0 c.deref-in-loop-i.ensures.0 c.loop-i.invariant
    c.lowest-total.ensures).more

pub returns : goal.returns
returns c =
    let long = many_long _ 16777216 c.args.y.now c.requires in
    λ g a. least_all g a c.args.terms.now c.args.y.now c.requires c.loop-i.i _ (omega (arith, long)) c.loop-i.invariant
