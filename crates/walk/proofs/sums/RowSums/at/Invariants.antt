use Rattle.duality.specs.Lists.{places}
use Rattle.duality.specs.Problem.{row_at}
use Rattle.job.specs.Numbers.{problem_of}
use Rattle.walk.specs.Running.{Lists}
use Rattle.walk.proofs.sums.RowSums.at.Given as goal

abbrev pub invariant-loop-i : goal.invariant-loop-i
invariant-loop-i l = Lists l.i l.sums.items (row_at (problem_of l.job) (places l.z))
