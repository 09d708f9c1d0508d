use Rattle.std.proofs.Common.{◌+◌, ◌*◌, ◌^◌, ℤ, ◌+ℤ◌, ◌*ℤ◌, ap, ◌∙◌, arith}
use Rattle.duality.specs.Lists.{places}
use Rattle.job.specs.Numbers.{problem_of}
use Rattle.terms.proofs.Bits.{back, small_of}
use Rattle.walk.proofs.Raising.{raise_more, raised_is, product_fits, raised_fits, pair_small, pair_is, pair_fits}
use Rattle.walk.proofs.slopes.shift_slopes.Goals as goal

pub overflow_add-w-in-loop-i-2 : goal.overflow_add-w-in-loop-i-2
overflow_add-w-in-loop-i-2 c =
    pair_fits c.args.shift.job.now c.loop-i.i c.args.shift.rope _ _ c.ropes-ropes.ensures c.as_slice-g.ensures.value

pub overflow_mul-slope : goal.overflow_mul-slope
overflow_mul-slope c =
    let ew = pair_is c.args.shift.job.now c.loop-i.i c.args.shift.rope _ _ c.ropes-ropes.ensures c.as_slice-g.ensures.value in
    product_fits (places c.loop-i.slopes c.loop-i.i) ((back (places c.as_slice-g.result.now (c.loop-i.i * c.ropes-ropes.result + c.args.shift.rope)) +ℤ back (places c.as_slice-g.result.now (c.args.shift.rope * c.ropes-ropes.result + c.loop-i.i)))) c.args.shift.by
    (small_of (2 ^ 41) _ _ (c.loop-i.invariant.1 c.loop-i.i (omega arith)) (c.requires.slopes_small c.loop-i.i))
    (small_of 2097152 _ _ ew (pair_small c.args.shift.job.now c.loop-i.i c.args.shift.rope)) c.args.shift.small

pub overflow_add-slope : goal.overflow_add-slope
overflow_add-slope c =
    let ew = pair_is c.args.shift.job.now c.loop-i.i c.args.shift.rope _ _ c.ropes-ropes.ensures c.as_slice-g.ensures.value in
    raised_fits (places c.loop-i.slopes c.loop-i.i) ((back (places c.as_slice-g.result.now (c.loop-i.i * c.ropes-ropes.result + c.args.shift.rope)) +ℤ back (places c.as_slice-g.result.now (c.args.shift.rope * c.ropes-ropes.result + c.loop-i.i)))) c.args.shift.by
    (small_of (2 ^ 41) _ _ (c.loop-i.invariant.1 c.loop-i.i (omega arith)) (c.requires.slopes_small c.loop-i.i))
    (small_of 2097152 _ _ ew (pair_small c.args.shift.job.now c.loop-i.i c.args.shift.rope)) c.args.shift.small

pub loop-i-preserved : goal.loop-i-preserved
loop-i-preserved c =
    let ew = pair_is c.args.shift.job.now c.loop-i.i c.args.shift.rope _ _ c.ropes-ropes.ensures c.as_slice-g.ensures.value in
    raise_more c.args.slopes.now c.loop-i.slopes
    (λ i. (problem_of c.args.shift.job.now).G i c.args.shift.rope +ℤ (problem_of c.args.shift.job.now).G c.args.shift.rope i) c.args.shift.by _ c.loop-i.i
    (omega (arith, c.loop-i.auto.slopes, c.loop-i-test.true)) c.loop-i.invariant
    (raised_is (places c.loop-i.slopes c.loop-i.i) ((back (places c.as_slice-g.result.now (c.loop-i.i * c.ropes-ropes.result + c.args.shift.rope)) +ℤ back (places c.as_slice-g.result.now (c.args.shift.rope * c.ropes-ropes.result + c.loop-i.i)))) c.args.shift.by
    (small_of (2 ^ 41) _ _ (c.loop-i.invariant.1 c.loop-i.i (omega arith)) (c.requires.slopes_small c.loop-i.i))
    (small_of 2097152 _ _ ew (pair_small c.args.shift.job.now c.loop-i.i c.args.shift.rope)) c.args.shift.small
    ∙ ap (λ (w : ℤ). places c.loop-i.slopes c.loop-i.i +ℤ w *ℤ c.args.shift.by) ew)
