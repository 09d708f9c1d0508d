use Rattle.std.proofs.Common.{◌≡◌, ◌++◌, map}
use Rattle.std.specs.List.{range_with_len}
use Rattle.table.specs.Grid.{matrix_of}
use Rattle.reading.proofs.reads.push_row.Given as goal

abbrev pub invariant-loop-j : goal.invariant-loop-j
invariant-loop-j g l = l.list.items ≡ l.initial.list.items ++ map (matrix_of (g.T.Table.meant l.table) l.i) (range_with_len 0 l.j)
