use Rattle.std.proofs.Common.{arith}
use Rattle.terms.specs.Numbers.{ropes_of}
use Rattle.opening.proofs.Firsts.{none_of}
use Rattle.reasons.proofs.Fitting.{long_of, tested_many}
use Rattle.reasons.proofs.refuses.check_point.Goals as goal

pub check_limit-requires : goal.check_limit-requires
check_limit-requires g c =
    let t = c.args.terms.now in
    let long = long_of _ (ropes_of t) c.args.z.now c.ropes.ensures (none_of _ _ _ c.in_ok-check_length.ensures) in
    record { first = omega arith; few = omega (arith, long, t.some.1) }

pub refuse_bound-requires : goal.refuse_bound-requires
refuse_bound-requires g c =
    tested_many _ (ropes_of c.args.terms.now) 32768 0 c.args.z.now c.ropes.ensures (none_of _ _ _ c.in_ok-check_length.ensures) (none_of _ _ _ c.in_ok-check_limit.ensures)

pub refuse_row-requires : goal.refuse_row-requires
refuse_row-requires g c =
    tested_many _ (ropes_of c.args.terms.now) 32768 0 c.args.z.now c.ropes.ensures (none_of _ _ _ c.in_ok-check_length.ensures) (none_of _ _ _ c.in_ok-check_limit.ensures)
