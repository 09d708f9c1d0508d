use Rattle.std.proofs.Common.{◌^◌, ◌<◌, List, length, ℤ, ap, arith, lit<}
use Rattle.duality.specs.Lists.{places}
use Rattle.job.specs.Numbers.{problem_of}
use Rattle.terms.proofs.Bits.{fits}
use Rattle.terms.proofs.Reading.{lo_item, hi_item}
use Rattle.walk.proofs.Ticks.{weighed_fits, moved_fits, moved_is, moved_near, ticks_are, turn_small, ticks_more, ticks_all}
use Rattle.walk.proofs.sums.RowSums.outside_after.Goals as goal

pub overflow_mul-s : goal.overflow_mul-s
overflow_mul-s c =
    let l : c.loop-i.i < (problem_of c.args.shift.job.now).rows = omega (arith, c.requires.0, ap length c.deref-sum-items.ensures.0, c.loop-i-test.true) in
    weighed_fits c.args.shift.job.now c.args.self.now c.args.shift.rope c.args.shift.by c.requires c.args.shift.small c.loop-i.i _ _ (ap (λ (xs : List ℤ). places xs c.loop-i.i) c.deref-sum-items.ensures.0)
    (c.weights-weights.ensures.are c.loop-i.i l)

pub overflow_add-s : goal.overflow_add-s
overflow_add-s c =
    let l : c.loop-i.i < (problem_of c.args.shift.job.now).rows = omega (arith, c.requires.0, ap length c.deref-sum-items.ensures.0, c.loop-i-test.true) in
    moved_fits c.args.shift.job.now c.args.self.now c.args.shift.rope c.args.shift.by c.requires c.args.shift.small c.loop-i.i _ _ (ap (λ (xs : List ℤ). places xs c.loop-i.i) c.deref-sum-items.ensures.0)
    (c.weights-weights.ensures.are c.loop-i.i l)

pub excess-total-requires : goal.excess-total-requires
excess-total-requires c =
    let l : c.loop-i.i < (problem_of c.args.shift.job.now).rows = omega (arith, c.requires.0, ap length c.deref-sum-items.ensures.0, c.loop-i-test.true) in
    let y = moved_is c.args.shift.job.now c.args.self.now c.args.shift.rope c.args.shift.by c.requires c.args.shift.small c.loop-i.i _ _
    (ap (λ (xs : List ℤ). places xs c.loop-i.i) c.deref-sum-items.ensures.0) (c.weights-weights.ensures.are c.loop-i.i l) in
    moved_near c.args.shift.job.now c.args.self.now c.args.shift.rope c.args.shift.by c.requires c.args.shift.small c.loop-i.i _ _ _
    (lo_item c.args.shift.job.now.terms c.loop-i.i _ c.as_slice-lo.ensures.value) (hi_item c.args.shift.job.now.terms c.loop-i.i _ c.as_slice-hi.ensures.value) y

pub overflow_add-total : goal.overflow_add-total
overflow_add-total c =
    let l : c.loop-i.i < (problem_of c.args.shift.job.now).rows = omega (arith, c.requires.0, ap length c.deref-sum-items.ensures.0, c.loop-i-test.true) in
    let y = moved_is c.args.shift.job.now c.args.self.now c.args.shift.rope c.args.shift.by c.requires c.args.shift.small c.loop-i.i _ _ (ap (λ (xs : List ℤ). places xs c.loop-i.i) c.deref-sum-items.ensures.0)
    (c.weights-weights.ensures.are c.loop-i.i l) in
    let lo = lo_item c.args.shift.job.now.terms c.loop-i.i _ c.as_slice-lo.ensures.value in
    let hi = hi_item c.args.shift.job.now.terms c.loop-i.i _ c.as_slice-hi.ensures.value in
    let r = ticks_are c.args.shift.job.now c.args.self.now c.args.shift.rope c.args.shift.by c.requires c.args.shift.small c.loop-i.i _ _ _ _ lo hi y
    c.excess-total.ensures in
    fits (2 ^ 47) _ (turn_small c.args.shift.job.now c.args.self.now c.args.shift.rope c.args.shift.by c.requires c.args.shift.small c.loop-i.i _ _ (omega (arith, l)) c.loop-i.invariant r) (lit< tt)

pub loop-i-preserved : goal.loop-i-preserved
loop-i-preserved c =
    let l : c.loop-i.i < (problem_of c.args.shift.job.now).rows = omega (arith, c.requires.0, ap length c.deref-sum-items.ensures.0, c.loop-i-test.true) in
    let y = moved_is c.args.shift.job.now c.args.self.now c.args.shift.rope c.args.shift.by c.requires c.args.shift.small c.loop-i.i _ _ (ap (λ (xs : List ℤ). places xs c.loop-i.i) c.deref-sum-items.ensures.0)
    (c.weights-weights.ensures.are c.loop-i.i l) in
    let lo = lo_item c.args.shift.job.now.terms c.loop-i.i _ c.as_slice-lo.ensures.value in
    let hi = hi_item c.args.shift.job.now.terms c.loop-i.i _ c.as_slice-hi.ensures.value in
    let r = ticks_are c.args.shift.job.now c.args.self.now c.args.shift.rope c.args.shift.by c.requires c.args.shift.small c.loop-i.i _ _ _ _ lo hi y
    c.excess-total.ensures in
    ticks_more c.args.shift.job.now c.args.self.now c.args.shift.rope c.args.shift.by c.requires c.args.shift.small c.loop-i.i _ _ (omega (arith, l)) c.loop-i.invariant r

pub returns : goal.returns
returns c =
    ticks_all c.args.shift.job.now c.args.self.now c.args.shift.rope c.args.shift.by c.requires c.args.shift.small c.loop-i.i _
    (omega (arith, c.requires.0, ap length c.deref-sum-items.ensures.0, c.loop-i-test.false, c.loop-i.auto.i-end)) c.loop-i.invariant
