use Rattle.std.proofs.Common.{sym, arith, lit≤}
use Rattle.table.specs.Grid.{matrix_of}
use Rattle.table.proofs.Bounds.{matrix_near}
use Rattle.terms.proofs.Reading.{many_at, many_long}
use Rattle.evaluate.proofs.Reading.{summable, answered}
use Rattle.evaluate.proofs.Costing.{twice_fits, slope_fits, product_fits, sum_fits, cost_more, cost_all}
use Rattle.evaluate.proofs.costs.cost.Goals as goal

pub row_of-requires : goal.row_of-requires
row_of-requires g c =
    let p = many_at _ _ 32768 c.args.z.now c.ropes.ensures (sym c.if-not-many_within.ensures) in
    summable c.args.terms.now 32768 c.args.z.now (lit≤ tt) p

pub overflow_mul-total : goal.overflow_mul-total
overflow_mul-total g c =
    let grid = g.T.Table.meant c.args.g.now in
    let p = many_at _ _ 32768 c.args.z.now c.ropes.ensures (sym c.if-not-many_within.ensures) in
    twice_fits (matrix_of grid) (matrix_near grid) c.args.terms.now c.args.z.now p c.loop-i.i c.loop-i-test.true _ _ c.row_of.ensures c.deref.ensures.0

pub overflow_add-total : goal.overflow_add-total
overflow_add-total g c =
    let grid = g.T.Table.meant c.args.g.now in
    let p = many_at _ _ 32768 c.args.z.now c.ropes.ensures (sym c.if-not-many_within.ensures) in
    slope_fits (matrix_of grid) (matrix_near grid) c.args.terms.now c.args.z.now p c.loop-i.i c.loop-i-test.true _ _ c.row_of.ensures c.deref.ensures.0

pub overflow_mul-total-in-loop-i : goal.overflow_mul-total-in-loop-i
overflow_mul-total-in-loop-i g c =
    let grid = g.T.Table.meant c.args.g.now in
    let p = many_at _ _ 32768 c.args.z.now c.ropes.ensures (sym c.if-not-many_within.ensures) in
    product_fits (matrix_of grid) (matrix_near grid) c.args.terms.now c.args.z.now p c.loop-i.i c.loop-i-test.true _ _ c.row_of.ensures c.deref.ensures.0
    _ c.loop-i.invariant

pub overflow_add-total-in-loop-i : goal.overflow_add-total-in-loop-i
overflow_add-total-in-loop-i g c =
    let grid = g.T.Table.meant c.args.g.now in
    let p = many_at _ _ 32768 c.args.z.now c.ropes.ensures (sym c.if-not-many_within.ensures) in
    sum_fits (matrix_of grid) (matrix_near grid) c.args.terms.now c.args.z.now p c.loop-i.i c.loop-i-test.true _ _ c.row_of.ensures c.deref.ensures.0
    _ c.loop-i.invariant

pub loop-i-preserved : goal.loop-i-preserved
loop-i-preserved g c =
    let grid = g.T.Table.meant c.args.g.now in
    let p = many_at _ _ 32768 c.args.z.now c.ropes.ensures (sym c.if-not-many_within.ensures) in
    cost_more (matrix_of grid) (matrix_near grid) c.args.terms.now c.args.z.now p c.loop-i.i c.loop-i-test.true _ _ c.row_of.ensures c.deref.ensures.0
    _ c.loop-i.invariant

pub returns : goal.returns
returns g c =
    let p = many_at _ _ 32768 c.args.z.now c.ropes.ensures (sym c.if-not-many_within.ensures) in
    let long = many_long _ 32768 c.args.z.now p in
    λ a. answered _ _ _ p (cost_all (g.T.Table.meant c.args.g.now) a c.args.terms.now c.args.z.now c.loop-i.i _ long (omega arith) c.loop-i.invariant)
