use Rattle.std.proofs.Common.{◌≡◌}
use Rattle.duality.specs.Lists.{places}
use Rattle.duality.specs.Sums.{dot}
use Rattle.job.specs.Strides.{strided}
use Rattle.job.proofs.sums.strided_dot.Given as goal

abbrev pub invariant-loop-k : goal.invariant-loop-k
invariant-loop-k l = l.sum ≡ dot l.k (strided l.table l.start l.stride) (places l.z)
