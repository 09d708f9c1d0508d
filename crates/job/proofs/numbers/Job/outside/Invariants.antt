use Rattle.std.proofs.Common.{◌≡◌}
use Rattle.duality.specs.Sums.{∑}
use Rattle.job.proofs.Outside.{outside_part}
use Rattle.job.proofs.numbers.Job.outside.Given as goal

abbrev pub invariant-loop-i : goal.invariant-loop-i
invariant-loop-i l = l.total ≡ ∑ l.i (outside_part l.self l.z)
