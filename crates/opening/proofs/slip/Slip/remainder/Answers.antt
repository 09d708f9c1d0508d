use Rattle.opening.proofs.Slips.{remainder_fits, remainder_is}
use Rattle.opening.proofs.slip.Slip.remainder.Goals as goal

pub overflow_sub-result : goal.overflow_sub-result
overflow_sub-result g c =
    let s = c.args.self.now in
    remainder_fits s.ropes s.numbers.now s.fit (g.G.Table.meant s.g.now) c.args.i c.args.j c.number_at.result c.gram.result c.number_at.ensures c.gram.ensures

pub returns : goal.returns
returns g c =
    let s = c.args.self.now in
    remainder_is s.ropes s.numbers.now s.fit (g.G.Table.meant s.g.now) c.args.i c.args.j c.number_at.result c.gram.result c.number_at.ensures c.gram.ensures
