use Rattle.std.proofs.Common.{length, sym, arith}
use Rattle.duality.specs.Lists.{places}
use Rattle.duality.specs.Tests.{within}
use Rattle.evaluate.proofs.Firsts.{first_some}
use Rattle.reasons.proofs.refuses.check_limit.Goals as goal

pub overflow_add-result : goal.overflow_add-result
overflow_add-result c =
    let h = first_some (λ k. within c.args.limit (places c.args.xs.now k)) (length c.args.xs.now) c.in-Some.k (sym c.in-Some.ensures) in
    omega (arith, h.0)
