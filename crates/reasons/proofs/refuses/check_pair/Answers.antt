use Rattle.std.proofs.Common.{arith}
use Rattle.terms.specs.Numbers.{ropes_of, rows_of}
use Rattle.opening.proofs.Firsts.{none_of}
use Rattle.reasons.proofs.Fitting.{long_of}
use Rattle.reasons.proofs.refuses.check_pair.Goals as goal

pub check_limit-requires : goal.check_limit-requires
check_limit-requires c =
    let t = c.args.terms.now in
    let long = long_of _ (ropes_of t) c.args.pair.point.now c.ropes-ropes.ensures (none_of _ _ _ c.in_ok-check_length.ensures) in
    record { first = omega arith; few = omega (arith, long, t.some.1) }

pub check_limit-requires-2 : goal.check_limit-requires-2
check_limit-requires-2 c =
    let t = c.args.terms.now in
    let long = long_of _ (rows_of t) c.args.pair.multipliers.now c.rows.ensures (none_of _ _ _ c.in_ok-check_length-2.ensures) in
    record { first = omega (arith, t.some.1); few = omega (arith, long, t.few) }
