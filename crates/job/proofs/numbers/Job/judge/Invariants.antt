use Rattle.std.proofs.Common.{◌≡◌, None}
use Rattle.duality.specs.Lists.{places}
use Rattle.duality.specs.Tests.{first_not}
use Rattle.job.specs.Numbers.{problem_of}
use Rattle.terms.specs.Findings.{keeps_row}
use Rattle.job.proofs.numbers.Job.judge.Given as goal

abbrev pub invariant-loop-i : goal.invariant-loop-i
invariant-loop-i l = first_not (keeps_row (problem_of l.self) (places l.z)) l.i ≡ None
