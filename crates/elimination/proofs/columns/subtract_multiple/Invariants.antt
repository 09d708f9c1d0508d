use Rattle.std.proofs.Common.{◌≡◌, ◌++◌, take, drop}
use Rattle.elimination.specs.Lines.{less}
use Rattle.elimination.proofs.columns.subtract_multiple.Given as goal

-- what is done, and then the rest of the line less the rest of the other, is the answer
abbrev pub invariant-loop-i : goal.invariant-loop-i
invariant-loop-i l = take l.i l.line ++ less l.f (drop l.i l.line) (drop l.i l.pivot_line) ≡ less l.f l.initial.line l.pivot_line
