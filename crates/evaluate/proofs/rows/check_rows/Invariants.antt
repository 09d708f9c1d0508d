use Rattle.std.proofs.Common.{◌≡◌, None}
use Rattle.duality.specs.Tests.{first_not}
use Rattle.table.specs.Grid.{matrix_of}
use Rattle.evaluate.proofs.Bounding.{meets}
use Rattle.evaluate.proofs.rows.check_rows.Given as goal

abbrev pub invariant-loop-i : goal.invariant-loop-i
invariant-loop-i g l = first_not (meets (matrix_of (g.T.Table.meant l.a)) l.terms l.z) l.i ≡ None
