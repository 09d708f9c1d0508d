use Rattle.std.proofs.Common.{◌<◌, sym, arith}
use Rattle.job.specs.Numbers.{problem_of}
use Rattle.terms.proofs.Reading.{many_long, c_item}
use Rattle.job.proofs.Reading.{answered}
use Rattle.job.proofs.Scoring.{along_back, twice_fits, slope_fits, slope_back, product_fits, total_fits, cost_more, cost_all}
use Rattle.job.proofs.numbers.Job.cost.Goals as goal

pub along-requires : goal.along-requires
along-requires c =
    let p = sym c.if-not-is_point.ensures in
    record { rope = omega (arith, c.loop-i-test.true, many_long _ 32768 c.args.z.now p); point = p }

pub overflow_mul-total : goal.overflow_mul-total
overflow_mul-total c =
    let l : c.loop-i.i < (problem_of c.args.self.now).ropes = omega (arith, c.loop-i-test.true, many_long _ 32768 c.args.z.now (sym c.if-not-is_point.ensures)) in
    twice_fits c.args.self.now c.args.z.now (sym c.if-not-is_point.ensures) c.loop-i.i _ (c_item c.args.self.now.terms c.loop-i.i _ c.deref.ensures.0)

pub overflow_add-total : goal.overflow_add-total
overflow_add-total c =
    let p = sym c.if-not-is_point.ensures in
    let l : c.loop-i.i < (problem_of c.args.self.now).ropes = omega (arith, c.loop-i-test.true, many_long _ 32768 c.args.z.now p) in
    let x = along_back c.args.self.now c.args.z.now p c.loop-i.i c.along.result c.along.ensures in
    let v = c_item c.args.self.now.terms c.loop-i.i _ c.deref.ensures.0 in
    slope_fits c.args.self.now c.args.z.now p c.loop-i.i _ _ x v

pub overflow_mul-total-in-loop-i : goal.overflow_mul-total-in-loop-i
overflow_mul-total-in-loop-i c =
    let p = sym c.if-not-is_point.ensures in
    let l : c.loop-i.i < (problem_of c.args.self.now).ropes = omega (arith, c.loop-i-test.true, many_long _ 32768 c.args.z.now p) in
    let x = along_back c.args.self.now c.args.z.now p c.loop-i.i c.along.result c.along.ensures in
    let v = c_item c.args.self.now.terms c.loop-i.i _ c.deref.ensures.0 in
    product_fits c.args.self.now c.args.z.now p c.loop-i.i _
    (slope_back c.args.self.now c.args.z.now p c.loop-i.i _ _ x v)

pub overflow_add-total-in-loop-i : goal.overflow_add-total-in-loop-i
overflow_add-total-in-loop-i c =
    let p = sym c.if-not-is_point.ensures in
    let l : c.loop-i.i < (problem_of c.args.self.now).ropes = omega (arith, c.loop-i-test.true, many_long _ 32768 c.args.z.now p) in
    let x = along_back c.args.self.now c.args.z.now p c.loop-i.i c.along.result c.along.ensures in
    let v = c_item c.args.self.now.terms c.loop-i.i _ c.deref.ensures.0 in
    total_fits c.args.self.now c.args.z.now p c.loop-i.i _ _ l c.loop-i.invariant
    (slope_back c.args.self.now c.args.z.now p c.loop-i.i _ _ x v)

pub loop-i-preserved : goal.loop-i-preserved
loop-i-preserved c =
    let p = sym c.if-not-is_point.ensures in
    let l : c.loop-i.i < (problem_of c.args.self.now).ropes = omega (arith, c.loop-i-test.true, many_long _ 32768 c.args.z.now p) in
    let x = along_back c.args.self.now c.args.z.now p c.loop-i.i c.along.result c.along.ensures in
    let v = c_item c.args.self.now.terms c.loop-i.i _ c.deref.ensures.0 in
    cost_more c.args.self.now c.args.z.now p c.loop-i.i _ _ l c.loop-i.invariant
    (slope_back c.args.self.now c.args.z.now p c.loop-i.i _ _ x v)

pub returns : goal.returns
returns c =
    let p = sym c.if-not-is_point.ensures in
    answered _ _ _ p
    (cost_all c.args.self.now c.args.z.now p c.loop-i.i _ (omega (arith, c.loop-i-test.false, c.loop-i.auto.i-end, many_long _ 32768 c.args.z.now p))
    c.loop-i.invariant)
