use Rattle.std.proofs.Common.{length}
use Rattle.duality.specs.Lists.{places}
use Rattle.duality.specs.Tests.{within as is_within}
use Rattle.terms.proofs.Firsts.{all_from_none}
use Rattle.terms.proofs.checks.all_within.Goals as goal

pub returns : goal.returns
returns c =
    all_from_none (λ k. is_within c.args.limit (places c.args.xs.now k)) (length c.args.xs.now) _ _ c.first_beyond.ensures c.is_none.ensures
