use Rattle.std.proofs.Common.{◌≡◌, ℕ, ◌<◌, get_or}
use lib.Ieee.{nan, binary64, of_int}
use Rattle.job.specs.Numbers.{problem_of}
use Rattle.exchange.specs.Members.{weight}
use Rattle.exchange.proofs.working.WorkingSet.write_weights.Given as goal

abbrev pub invariant-loop-j : goal.invariant-loop-j
invariant-loop-j l = (i : ℕ) → i < l.j → get_or l.line i nan ≡ of_int binary64 (weight (problem_of l.self.job.now) l.limit i)
