use Rattle.std.proofs.Common.{◌≡◌}
use Rattle.terms.specs.Numbers.{rows_of}
use Rattle.duality.specs.Refutation.{highest}
use Rattle.duality.specs.Lists.{places}
use Rattle.duality.specs.Sums.{∑, column}
use Rattle.table.specs.Grid.{matrix_of}
use Rattle.evaluate.proofs.refutations.most_allowed.Given as goal

abbrev pub invariant-loop-j : goal.invariant-loop-j
invariant-loop-j g l =
    l.total
    ≡ ∑ l.j (λ j. highest (column (rows_of l.terms) (matrix_of (g.T.Table.meant l.a)) (places l.y) j) (places l.terms.l.items j)
    (places l.terms.u.items j))
