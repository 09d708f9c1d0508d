use Rattle.std.proofs.Common.{nat_abs, ap, arith, lit≤}
use Rattle.terms.proofs.Reading.{c_small, c_item}
use Rattle.evaluate.proofs.Reading.{summable}
use Rattle.evaluate.proofs.Slacking.{along_small, along_back, weights_small, weights_back, residual_is, residual_back}
use Rattle.evaluate.proofs.floors.Fitting.residual.Goals as goal

pub row_of-requires : goal.row_of-requires
row_of-requires g c = summable c.args.self.now.terms.now 32768 c.args.self.now.pair.point.now (lit≤ tt) c.args.self.now.point_fits

pub left_of-requires : goal.left_of-requires
left_of-requires g c =
    let t = c.args.self.now.terms.now in
    let p = c.args.self.now.pair.point.now in
    let y = c.args.self.now.pair.multipliers.now in
    let G = g.T.Table.meant c.args.g.now in
    let A = g.U.Table.meant c.args.a.now in
    let x = along_back G t p y c.args.self.now.point_fits c.args.self.now.weights_fit c.args.j _ c.row_of.ensures in
    let v = c_item t c.args.j _ c.deref.ensures.0 in
    let w = weights_back A t y c.args.self.now.weights_fit c.args.j _ c.column_of.ensures in
    record {
      along = omega (arith, ap nat_abs x, along_small G t p y c.args.self.now.point_fits c.args.self.now.weights_fit c.args.j);
      price = omega (arith, ap nat_abs v, c_small t c.args.j);
      weights = omega (arith, ap nat_abs w, weights_small A t y c.args.self.now.weights_fit c.args.j);
    }

pub returns : goal.returns
returns g c =
    let t = c.args.self.now.terms.now in
    let p = c.args.self.now.pair.point.now in
    let y = c.args.self.now.pair.multipliers.now in
    let G = g.T.Table.meant c.args.g.now in
    let A = g.U.Table.meant c.args.a.now in
    let x = along_back G t p y c.args.self.now.point_fits c.args.self.now.weights_fit c.args.j _ c.row_of.ensures in
    let v = c_item t c.args.j _ c.deref.ensures.0 in
    let w = weights_back A t y c.args.self.now.weights_fit c.args.j _ c.column_of.ensures in
    residual_back G A t p y c.args.self.now.point_fits c.args.self.now.weights_fit c.args.j _
    (residual_is G A t p y c.args.self.now.point_fits c.args.self.now.weights_fit c.args.j _ _ _ c.left_of.result x v w c.left_of.ensures)
