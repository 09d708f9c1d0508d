use Rattle.std.proofs.Common.{◌≡◌, None}
use Rattle.duality.specs.Tests.{first_not}
use Rattle.table.specs.Grid.{place_of}
use Rattle.opening.specs.Firsts.{first_of}
use Rattle.opening.specs.Opening.{is_number, line_fault}
use Rattle.opening.proofs.tables.check_places.Given as goal

abbrev pub invariant-loop-row : goal.invariant-loop-row
invariant-loop-row g l = first_of (line_fault l.limit (g.T.Table.meant l.t)) l.row ≡ None

abbrev pub invariant-loop-column : goal.invariant-loop-column
invariant-loop-column g l = first_not (λ j. is_number l.limit (place_of (g.T.Table.meant l.t) l.row j)) l.column ≡ None
