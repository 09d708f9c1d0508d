use Rattle.std.proofs.Common.{◌≡◌}
use Rattle.duality.specs.Lists.{places}
use Rattle.duality.specs.Sums.{row}
use Rattle.table.specs.Grid.{matrix_of}
use Rattle.evaluate.proofs.sums.sum_of_places.Given as goal

abbrev pub invariant-loop-j : goal.invariant-loop-j
invariant-loop-j g l = l.sum ≡ row l.j (matrix_of (g.T.Table.meant l.table)) (places l.z) l.i
