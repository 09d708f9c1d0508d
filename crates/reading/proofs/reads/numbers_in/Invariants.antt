use Rattle.std.proofs.Common.{◌≡◌}
use Rattle.table.specs.Grid.{matrix_of}
use Rattle.reading.specs.Plain.{listed}
use Rattle.reading.proofs.reads.numbers_in.Given as goal

abbrev pub invariant-loop-i : goal.invariant-loop-i
invariant-loop-i g l = l.list.items ≡ listed l.i l.columns (matrix_of (g.T.Table.meant l.table))
