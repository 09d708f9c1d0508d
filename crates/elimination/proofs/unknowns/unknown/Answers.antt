use Rattle.std.proofs.Common.{◌+◌}
use Rattle.std.proofs.lemmas.List.{take_rest}
use Rattle.elimination.proofs.unknowns.unknown.Goals as goal

pub returns : goal.returns
returns c = let e = rw (take_rest c.args.line.now (c.args.k + 1)) at c.remainder.ensures in rw e
