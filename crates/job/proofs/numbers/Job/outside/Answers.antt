use Rattle.std.proofs.Common.{◌^◌, ◌<◌, sym, arith, lit<, length, ap}
use Rattle.duality.specs.Lists.{places}
use Rattle.job.specs.Numbers.{problem_of}
use Rattle.terms.proofs.Bits.{fits}
use Rattle.terms.proofs.Reading.{hi_item, lo_item}
use Rattle.job.proofs.Reading.{wider, answered}
use Rattle.job.proofs.Outside.{row_near, row_back, part_is, turn_small, outside_more, outside_all, met_inside}
use Rattle.job.proofs.numbers.Job.outside.Goals as goal

pub row_at-requires : goal.row_at-requires
row_at-requires c =
    record {
      row = omega (arith, c.loop-i-test.true, ap length c.deref-lo-items.ensures.0);
      point = wider (problem_of c.args.self.now).ropes c.args.z.now (sym c.if-not-is_point.ensures);
    }

pub overflow_add-total : goal.overflow_add-total
overflow_add-total c =
    let p = sym c.if-not-is_point.ensures in
    let l : c.loop-i.i < (problem_of c.args.self.now).rows = omega (arith, c.loop-i-test.true, ap length c.deref-lo-items.ensures.0) in
    let lo = lo_item c.args.self.now.terms c.loop-i.i _ c.deref-lo-items.ensures.0 in
    let hi = hi_item c.args.self.now.terms c.loop-i.i _ c.deref.ensures.0 in
    let s = row_back c.args.self.now c.args.z.now p c.loop-i.i c.row_at.result c.row_at.ensures in
    fits (2 ^ 46) _ (turn_small c.args.self.now c.args.z.now p c.loop-i.i _ c.excess-total.result (omega (arith, l)) c.loop-i.invariant
    (part_is c.args.self.now c.args.z.now c.loop-i.i _ _ _ _ lo hi s (c.excess-total.ensures.near (row_near c.args.self.now c.args.z.now p c.loop-i.i _ _ _ lo hi s)))) (lit< tt)

pub loop-i-preserved : goal.loop-i-preserved
loop-i-preserved c =
    let p = sym c.if-not-is_point.ensures in
    let l : c.loop-i.i < (problem_of c.args.self.now).rows = omega (arith, c.loop-i-test.true, ap length c.deref-lo-items.ensures.0) in
    let lo = lo_item c.args.self.now.terms c.loop-i.i _ c.deref-lo-items.ensures.0 in
    let hi = hi_item c.args.self.now.terms c.loop-i.i _ c.deref.ensures.0 in
    let s = row_back c.args.self.now c.args.z.now p c.loop-i.i c.row_at.result c.row_at.ensures in
    outside_more c.args.self.now c.args.z.now p c.loop-i.i _ c.excess-total.result (omega (arith, l)) c.loop-i.invariant
    (part_is c.args.self.now c.args.z.now c.loop-i.i _ _ _ _ lo hi s (c.excess-total.ensures.near (row_near c.args.self.now c.args.z.now p c.loop-i.i _ _ _ lo hi s)))

pub returns : goal.returns
returns c =
    let p = sym c.if-not-is_point.ensures in
    let all = outside_all c.args.self.now c.args.z.now p c.loop-i.i _
    (omega (arith, c.loop-i-test.false, c.loop-i.auto.i-end, ap length c.deref-lo-items.ensures.0)) c.loop-i.invariant in
    record { value = answered _ _ _ p all; met = met_inside (problem_of c.args.self.now) (places c.args.z.now) _ all }
