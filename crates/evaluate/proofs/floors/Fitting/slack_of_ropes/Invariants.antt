use Rattle.std.proofs.Common.{◌≡◌}
use Rattle.duality.specs.Floor.{furthest, residual}
use Rattle.duality.specs.Lists.{places}
use Rattle.duality.specs.Sums.{∑}
use Rattle.evaluate.specs.Stated.{problem_of}
use Rattle.evaluate.proofs.floors.Fitting.slack_of_ropes.Given as goal

abbrev pub invariant-loop-j : goal.invariant-loop-j
invariant-loop-j g l =
    l.total
    ≡ ∑ l.j (λ j. furthest (residual (problem_of (g.T.Table.meant l.g) (g.U.Table.meant l.a) l.self.terms.now) (places l.self.pair.point.now) (places l.self.pair.multipliers.now) j) (places l.self.pair.point.now j)
    (places l.self.terms.now.l.items j) (places l.self.terms.now.u.items j))
