use Rattle.std.proofs.Common.{◌≡◌, ◌++◌, map, take, drop}
use Rattle.elimination.specs.Lines.{cleared}
use Rattle.elimination.proofs.columns.clear_lines.Given as goal

abbrev pub invariant-loop-line : goal.invariant-loop-line
invariant-loop-line l = l.lines ≡ map (cleared l.k l.pivot_line) (take l.line-index l.initial.lines) ++ drop l.line-index l.initial.lines
