use Rattle.std.proofs.Common.{nat_abs, ap, arith}
use Rattle.terms.proofs.Reading.{lo_item, lo_small, hi_item, hi_small, l_item, l_small, u_item, u_small}
use Rattle.exchange.proofs.systems.held_at.Goals as goal

pub returns-in-Row-Lower-clause-small : goal.returns-in-Row-Lower-clause-small
returns-in-Row-Lower-clause-small c =
    let t = c.args.job.now.terms in
    omega (arith, ap nat_abs (lo_item t c.in-Row-Lower.i _ c.deref.ensures.0), lo_small t c.in-Row-Lower.i)

pub returns-in-Row-Upper-clause-small : goal.returns-in-Row-Upper-clause-small
returns-in-Row-Upper-clause-small c =
    let t = c.args.job.now.terms in
    omega (arith, ap nat_abs (hi_item t c.in-Row-Upper.i _ c.deref-in-Row-Upper.ensures.0), hi_small t c.in-Row-Upper.i)

pub returns-in-Bound-Lower-clause-small : goal.returns-in-Bound-Lower-clause-small
returns-in-Bound-Lower-clause-small c =
    let t = c.args.job.now.terms in
    omega (arith, ap nat_abs (l_item t c.in-Bound-Lower.j _ c.deref-in-Bound-Lower.ensures.0), l_small t c.in-Bound-Lower.j)

pub returns-in-Bound-Upper-clause-small : goal.returns-in-Bound-Upper-clause-small
returns-in-Bound-Upper-clause-small c =
    let t = c.args.job.now.terms in
    omega (arith, ap nat_abs (u_item t c.in-Bound-Upper.j _ c.deref-in-Bound-Upper.ensures.0), u_small t c.in-Bound-Upper.j)
