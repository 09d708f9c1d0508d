use Rattle.std.proofs.Common.{◌≡◌, ◌+◌, ◌-◌, length}
use Rattle.elimination.specs.Lines.{columns_done, triangle_of}
use Rattle.elimination.proofs.columns.eliminate.Given as goal

-- what is left of the columns makes up the whole
abbrev pub invariant-loop-k : goal.invariant-loop-k
invariant-loop-k l =
    columns_done (length l.initial.lines + 1) (length l.initial.lines - l.k) l.k l.smallest l.lines ≡ triangle_of l.initial.smallest l.initial.lines
