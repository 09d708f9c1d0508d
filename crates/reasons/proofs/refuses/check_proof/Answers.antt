use Rattle.std.proofs.Common.{arith}
use Rattle.terms.specs.Numbers.{rows_of}
use Rattle.opening.proofs.Firsts.{none_of}
use Rattle.reasons.proofs.Fitting.{long_of, tested_many}
use Rattle.reasons.proofs.Given.{given, no_grid}
use Rattle.reasons.proofs.refuses.check_proof.Goals as goal

pub check_limit-requires : goal.check_limit-requires
check_limit-requires g c =
    let t = c.args.terms.now in
    let long = long_of _ (rows_of t) c.args.y.now c.rows.ensures (none_of _ _ _ c.in_ok-check_length.ensures) in
    record { first = omega arith; few = omega (arith, long, t.few) }

pub unwrap-requires : goal.unwrap-requires
unwrap-requires g c =
    given _ _ _ (c.refutes.ensures.value no_grid)
    (tested_many _ (rows_of c.args.terms.now) 16777216 0 c.args.y.now c.rows.ensures (none_of _ _ _ c.in_ok-check_length.ensures) (none_of _ _ _ c.in_ok-check_limit.ensures))
