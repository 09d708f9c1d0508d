use Rattle.std.proofs.Common.{nat_abs, ap, arith}
use Rattle.terms.proofs.Reading.{c_item, c_small}
use Rattle.exchange.proofs.systems.price.Goals as goal

pub returns-clause-small : goal.returns-clause-small
returns-clause-small c =
    let t = c.args.job.now.terms in
    omega (arith, ap nat_abs (c_item t c.args.r _ c.deref.ensures.0), c_small t c.args.r)
