use Rattle.std.proofs.Common.{◌+◌, ◌*◌, ◌^◌, ◌<◌, ℤ, ◌+ℤ◌, ◌*ℤ◌, ap, ◌∙◌, arith}
use Rattle.duality.specs.Lists.{places}
use Rattle.job.specs.Numbers.{problem_of}
use Rattle.terms.proofs.Bits.{small_of}
use Rattle.job.proofs.Reading.{a_small}
use Rattle.walk.proofs.Raising.{raise_more, product_fits, raised_fits, raised_is}
use Rattle.walk.proofs.sums.shift_sums.Goals as goal

pub overflow_mul-sum : goal.overflow_mul-sum
overflow_mul-sum c =
    let l : c.loop-i.i < (problem_of c.args.shift.job.now).rows = omega (arith, c.requires.long, c.loop-i-test.true) in
    let ew = c.weights-weights.ensures.are c.loop-i.i l in
    product_fits (places c.loop-i.sums c.loop-i.i) (places c.weights-weights.result.now c.loop-i.i) c.args.shift.by (small_of (2 ^ 41) _ _ (c.loop-i.invariant.1 c.loop-i.i (omega arith)) (c.requires.sums_small c.loop-i.i))
    (small_of 2097152 _ _ ew (omega (arith, a_small c.args.shift.job.now (c.args.shift.rope * (problem_of c.args.shift.job.now).rows + c.loop-i.i)))) c.args.shift.small

pub overflow_add-sum : goal.overflow_add-sum
overflow_add-sum c =
    let l : c.loop-i.i < (problem_of c.args.shift.job.now).rows = omega (arith, c.requires.long, c.loop-i-test.true) in
    let ew = c.weights-weights.ensures.are c.loop-i.i l in
    raised_fits (places c.loop-i.sums c.loop-i.i) (places c.weights-weights.result.now c.loop-i.i) c.args.shift.by (small_of (2 ^ 41) _ _ (c.loop-i.invariant.1 c.loop-i.i (omega arith)) (c.requires.sums_small c.loop-i.i))
    (small_of 2097152 _ _ ew (omega (arith, a_small c.args.shift.job.now (c.args.shift.rope * (problem_of c.args.shift.job.now).rows + c.loop-i.i)))) c.args.shift.small

pub loop-i-preserved : goal.loop-i-preserved
loop-i-preserved c =
    let l : c.loop-i.i < (problem_of c.args.shift.job.now).rows = omega (arith, c.requires.long, c.loop-i-test.true) in
    let ew = c.weights-weights.ensures.are c.loop-i.i l in
    raise_more c.args.sums.now c.loop-i.sums (λ i. (problem_of c.args.shift.job.now).A i c.args.shift.rope) c.args.shift.by _ c.loop-i.i
    (omega (arith, c.loop-i.auto.sums, c.loop-i-test.true)) c.loop-i.invariant
    (raised_is (places c.loop-i.sums c.loop-i.i) (places c.weights-weights.result.now c.loop-i.i) c.args.shift.by (small_of (2 ^ 41) _ _ (c.loop-i.invariant.1 c.loop-i.i (omega arith)) (c.requires.sums_small c.loop-i.i))
    (small_of 2097152 _ _ ew (omega (arith, a_small c.args.shift.job.now (c.args.shift.rope * (problem_of c.args.shift.job.now).rows + c.loop-i.i)))) c.args.shift.small
    ∙ ap (λ (w : ℤ). places c.loop-i.sums c.loop-i.i +ℤ w *ℤ c.args.shift.by) ew)
