use Rattle.evaluate.proofs.Turning.{rope_near, rope_turn}
use Rattle.evaluate.proofs.floors.Fitting.slack_of_ropes.Goals as goal

pub furthest-total-requires : goal.furthest-total-requires
furthest-total-requires g c =
    let n =
    rope_near (g.T.Table.meant c.args.g.now) (g.U.Table.meant c.args.a.now) c.args.self.now.terms.now c.args.self.now.pair.point.now c.args.self.now.pair.multipliers.now
    c.args.self.now.point_fits c.args.self.now.weights_fit c.loop-j.j c.loop-j-test.true _ _ c.deref.ensures.0 c.deref-in-loop-j.ensures.0 in
    record { x = n.x_near; low = n.low_near; high = n.high_near }

pub overflow_add-total : goal.overflow_add-total
overflow_add-total g c =
    (rope_turn (g.T.Table.meant c.args.g.now) (g.U.Table.meant c.args.a.now) c.args.self.now.terms.now c.args.self.now.pair.point.now c.args.self.now.pair.multipliers.now
    c.args.self.now.point_fits c.args.self.now.weights_fit c.loop-j.j c.loop-j-test.true _ _ c.deref.ensures.0 c.deref-in-loop-j.ensures.0
    _ _ _ c.residual.ensures c.loop-j.invariant c.furthest-total.ensures).fits

pub loop-j-preserved : goal.loop-j-preserved
loop-j-preserved g c =
    (rope_turn (g.T.Table.meant c.args.g.now) (g.U.Table.meant c.args.a.now) c.args.self.now.terms.now c.args.self.now.pair.point.now c.args.self.now.pair.multipliers.now
    c.args.self.now.point_fits c.args.self.now.weights_fit c.loop-j.j c.loop-j-test.true _ _ c.deref.ensures.0 c.deref-in-loop-j.ensures.0
    _ _ _ c.residual.ensures c.loop-j.invariant c.furthest-total.ensures).more
