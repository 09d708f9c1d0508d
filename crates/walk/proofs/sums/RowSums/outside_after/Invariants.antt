use Rattle.std.proofs.Common.{◌≡◌}
use Rattle.duality.specs.Sums.{∑}
use Rattle.walk.proofs.Ticks.{ticks}
use Rattle.walk.proofs.sums.RowSums.outside_after.Given as goal

abbrev pub invariant-loop-i : goal.invariant-loop-i
invariant-loop-i l = l.total ≡ ∑ l.i (ticks l.shift.job.now l.self l.shift.rope l.shift.by)
