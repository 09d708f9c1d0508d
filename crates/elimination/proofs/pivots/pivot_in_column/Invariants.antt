use Rattle.std.proofs.Common.{◌≡◌, ◌+◌, ◌<◌, length, drop}
use Rattle.elimination.specs.Lines.{pick, pivot_of}
use Rattle.elimination.proofs.pivots.pivot_in_column.Given as goal

-- the lines that are left give the answer
abbrev pub invariant-loop-i : goal.invariant-loop-i
invariant-loop-i l =
    (pick l.k (l.k + l.i) l.best.place l.best.size (drop (l.k + l.i) l.lines) ≡ pivot_of l.k l.lines)
    × (l.best.place < length l.lines)
