use Rattle.std.proofs.Common.{◌≡◌}
use Rattle.duality.specs.Refutation.{lowest}
use Rattle.duality.specs.Lists.{places}
use Rattle.duality.specs.Sums.{∑}
use Rattle.evaluate.proofs.refutations.least_needed.Given as goal

abbrev pub invariant-loop-i : goal.invariant-loop-i
invariant-loop-i l = l.total ≡ ∑ l.i (λ i. lowest (places l.y i) (places l.terms.lo.items i) (places l.terms.hi.items i))
