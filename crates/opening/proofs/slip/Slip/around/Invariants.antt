use Rattle.std.proofs.Common.{◌≡◌}
use Rattle.duality.specs.Convex.{remainder, beside}
use Rattle.duality.specs.Lists.{by_rows}
use Rattle.duality.specs.Sums.{∑}
use Rattle.table.specs.Grid.{matrix_of}
use Rattle.opening.proofs.slip.Slip.around.Given as goal

abbrev pub invariant-loop-j : goal.invariant-loop-j
invariant-loop-j g l = l.sum ≡ ∑ l.j (beside (remainder l.self.ropes (matrix_of (g.G.Table.meant l.self.g.now)) (by_rows l.self.ropes l.self.numbers.now)) l.i)
