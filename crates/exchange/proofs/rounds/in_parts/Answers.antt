use Rattle.std.proofs.Common.{get_or, set, ap, ◌∙◌, arith}
use lib.Ieee.{nan, binary64, mul}
use Rattle.std.proofs.lemmas.List.Edits.{map_over_more}
use Rattle.std.proofs.lemmas.List.{take_all, drop_all, append-nil, get_or_default}
use Rattle.exchange.specs.Rounding.{in_parts}
use Rattle.exchange.proofs.Numbers.{scale_is}
use Rattle.exchange.proofs.rounds.in_parts.Goals as goal

pub loop-y-preserved : goal.loop-y-preserved
loop-y-preserved c =
    let ys = c.loop-y.unknowns in
    let i = c.loop-y.y-index in
    let y = get_or ys i nan in
    ap (λ z. set ys i (mul binary64 y z)) scale_is
    ∙ map_over_more in_parts c.args.unknowns.now ys i y c.loop-y-test.true c.loop-y.invariant (get_or_default ys i _ _ (omega (arith, c.loop-y.auto.unknowns)))

pub returns : goal.returns
returns c =
    let xs = c.args.unknowns.now in
    let i = c.loop-y.y-index in
    c.loop-y.invariant ∙ rw (take_all i xs c.loop-y-test.false, drop_all i xs c.loop-y-test.false, append-nil)
