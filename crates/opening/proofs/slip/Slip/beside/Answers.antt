use Rattle.opening.proofs.Slips.{negated_fits}
use Rattle.opening.proofs.slip.Slip.beside.Goals as goal

pub abs-requires : goal.abs-requires
abs-requires g c =
    let s = c.args.self.now in
    negated_fits s.ropes s.numbers.now s.fit (g.G.Table.meant s.g.now) c.args.i c.args.j c.remainder.result c.remainder.ensures
