use Rattle.std.proofs.Common.{◌≡◌}
use Rattle.duality.specs.Sums.{∑}
use Rattle.table.specs.Grid.{matrix_of}
use Rattle.evaluate.proofs.Costing.{cost_part}
use Rattle.evaluate.proofs.costs.cost.Given as goal

abbrev pub invariant-loop-i : goal.invariant-loop-i
invariant-loop-i g l = l.total ≡ ∑ l.i (cost_part (matrix_of (g.T.Table.meant l.g)) l.terms l.z)
