use Rattle.std.proofs.Common.{lit≤}
use Rattle.evaluate.proofs.Reading.{summable}
use Rattle.evaluate.proofs.Turning.{row_near, row_turn}
use Rattle.evaluate.proofs.floors.Fitting.slack_of_rows.Goals as goal

pub row_of-sum-requires : goal.row_of-sum-requires
row_of-sum-requires g c = summable c.args.self.now.terms.now 32768 c.args.self.now.pair.point.now (lit≤ tt) c.args.self.now.point_fits

pub furthest-total-requires : goal.furthest-total-requires
furthest-total-requires g c =
    let n =
    row_near (g.U.Table.meant c.args.a.now) c.args.self.now.terms.now c.args.self.now.pair.point.now c.args.self.now.pair.multipliers.now
    c.args.self.now.point_fits c.args.self.now.weights_fit c.loop-i.i c.loop-i-test.true _ _ _ c.row_of-sum.ensures c.deref.ensures.0 c.deref-in-loop-i.ensures.0 in
    record { x = n.x_near; low = n.low_near; high = n.high_near }

pub overflow_add-total : goal.overflow_add-total
overflow_add-total g c =
    (row_turn (g.U.Table.meant c.args.a.now) c.args.self.now.terms.now c.args.self.now.pair.point.now c.args.self.now.pair.multipliers.now
    c.args.self.now.point_fits c.args.self.now.weights_fit c.loop-i.i c.loop-i-test.true _ _ _ c.row_of-sum.ensures c.deref.ensures.0 c.deref-in-loop-i.ensures.0
    _ _ c.loop-i.invariant c.furthest-total.ensures).fits

pub loop-i-preserved : goal.loop-i-preserved
loop-i-preserved g c =
    (row_turn (g.U.Table.meant c.args.a.now) c.args.self.now.terms.now c.args.self.now.pair.point.now c.args.self.now.pair.multipliers.now
    c.args.self.now.point_fits c.args.self.now.weights_fit c.loop-i.i c.loop-i-test.true _ _ _ c.row_of-sum.ensures c.deref.ensures.0 c.deref-in-loop-i.ensures.0
    _ _ c.loop-i.invariant c.furthest-total.ensures).more
