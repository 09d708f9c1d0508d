use Rattle.std.proofs.Common.{w64, SFits, rules}
use Rattle.walk.proofs.Ticks.{excess_is}
use Rattle.walk.proofs.sums.excess.Goals as goal

pub returns : goal.returns
returns c =
    let fm : SFits w64 c.max-most.result = search rules in
    let fr : SFits w64 c.max.result = search rules in
    excess_is c.args.low c.args.high c.args.s c.max-most.result c.max.result c.requires fm fr c.max-most.ensures.value c.max.ensures.value
