use Rattle.std.proofs.Common.{◌+◌, ◌*◌, nat_abs, ap, arith, lit<}
use Rattle.terms.proofs.Bits.{item_back}
use Rattle.job.proofs.Reading.{a_small}
use Rattle.exchange.proofs.systems.row_weight.Goals as goal

pub returns-clause-small : goal.returns-clause-small
returns-clause-small c =
    let j = c.args.job.now in
    let at = c.args.j * c.rows.result + c.args.i in
    omega (arith, ap nat_abs (item_back 1048576 _ j.a.items at c.deref.ensures.0 (a_small j at) (lit< tt)), a_small j at)
