use Rattle.duality.specs.Lists.{places}
use Rattle.job.specs.Numbers.{problem_of}
use Rattle.job.specs.Points.{gradient}
use Rattle.walk.specs.Running.{Lists}
use Rattle.walk.proofs.slopes.Slopes.at.Given as goal

abbrev pub invariant-loop-k : goal.invariant-loop-k
invariant-loop-k l = Lists l.k l.slopes.items (gradient (problem_of l.job) (places l.z))
