use Rattle.std.proofs.Common.{◌≡◌, ℕ, ◌<◌, neg_ℤ, get_or}
use lib.Ieee.{nan, binary64, of_int}
use Rattle.job.specs.Numbers.{problem_of}
use Rattle.exchange.specs.Members.{weight}
use Rattle.exchange.specs.Systems.{member_at}
use Rattle.exchange.proofs.working.WorkingSet.write_pushes.Given as goal

abbrev pub invariant-loop-k : goal.invariant-loop-k
invariant-loop-k l = (i : ℕ) → i < l.k → get_or l.line i nan ≡ of_int binary64 (neg_ℤ (weight (problem_of l.self.job.now) (member_at l.self.members.now i).limit l.r))
