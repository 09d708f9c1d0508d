use Rattle.std.proofs.Common.{◌≡◌}
use Rattle.duality.specs.Sums.{∑}
use Rattle.job.proofs.Scoring.{cost_part}
use Rattle.job.proofs.numbers.Job.cost.Given as goal

abbrev pub invariant-loop-i : goal.invariant-loop-i
invariant-loop-i l = l.total ≡ ∑ l.i (cost_part l.self l.z)
