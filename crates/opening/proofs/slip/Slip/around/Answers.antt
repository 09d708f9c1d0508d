use Rattle.std.proofs.Common.{rules}
use Rattle.duality.specs.Convex.{around}
use Rattle.opening.proofs.Slips.{around_fits, around_more}
use Rattle.opening.proofs.slip.Slip.around.Goals as goal

pub overflow_add-sum : goal.overflow_add-sum
overflow_add-sum g c =
    let s = c.args.self.now in
    around_fits s.ropes s.numbers.now s.fit (g.G.Table.meant s.g.now) c.args.i c.loop-j.j c.loop-j-test.true _ c.beside-sum.result c.loop-j.invariant c.beside-sum.ensures

pub loop-j-preserved : goal.loop-j-preserved
loop-j-preserved g c =
    let s = c.args.self.now in
    around_more s.ropes s.numbers.now s.fit (g.G.Table.meant s.g.now) c.args.i c.loop-j.j c.loop-j-test.true _ c.beside-sum.result c.loop-j.invariant c.beside-sum.ensures

pub returns : goal.returns
unfolding around
returns g c = search rules
