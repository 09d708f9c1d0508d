use Rattle.std.proofs.Common.{◌≡◌, None}
use Rattle.duality.specs.Convex.{remainder}
use Rattle.duality.specs.Lists.{by_rows}
use Rattle.duality.specs.Tests.{first_not}
use Rattle.table.specs.Grid.{matrix_of}
use Rattle.opening.specs.Opening.{dominates}
use Rattle.opening.proofs.slip.Slip.check.Given as goal

abbrev pub invariant-loop-row : goal.invariant-loop-row
invariant-loop-row g l =
    first_not (dominates l.self.ropes (remainder l.self.ropes (matrix_of (g.G.Table.meant l.self.g.now)) (by_rows l.self.ropes l.self.numbers.now))) l.row ≡ None
