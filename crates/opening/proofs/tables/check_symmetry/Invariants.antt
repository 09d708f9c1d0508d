use Rattle.std.proofs.Common.{◌≡◌, None}
use Rattle.duality.specs.Tests.{first_not}
use Rattle.table.specs.Grid.{matrix_of}
use Rattle.opening.specs.Firsts.{first_of}
use Rattle.opening.specs.Opening.{same, mirror_fault}
use Rattle.opening.proofs.tables.check_symmetry.Given as goal

abbrev pub invariant-loop-row : goal.invariant-loop-row
invariant-loop-row g l = first_of (mirror_fault (g.G.Table.meant l.g)) l.row ≡ None

abbrev pub invariant-loop-column : goal.invariant-loop-column
invariant-loop-column g l = first_not (λ j. same (matrix_of (g.G.Table.meant l.g) l.row j) (matrix_of (g.G.Table.meant l.g) j l.row)) l.column ≡ None
