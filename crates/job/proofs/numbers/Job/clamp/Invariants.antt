use Rattle.std.proofs.Common.{◌≡◌, ℕ, ◌<◌, ◌≤◌}
use Rattle.duality.specs.Lists.{places}
use Rattle.job.specs.Numbers.{problem_of}
use Rattle.job.specs.Bounds.{held}
use Rattle.job.proofs.numbers.Job.clamp.Given as goal

abbrev pub invariant-loop-j : goal.invariant-loop-j
invariant-loop-j l =
    ((k : ℕ) → k < l.j → places l.z k ≡ held ((problem_of l.self).l k) ((problem_of l.self).u k) (places l.initial.z k))
    × ((k : ℕ) → l.j ≤ k → places l.z k ≡ places l.initial.z k)
