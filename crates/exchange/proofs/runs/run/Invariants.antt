use Rattle.std.proofs.Common.{◌≡◌, ◌+◌, ◌-◌}
use Rattle.job.specs.Numbers.{problem_of}
use Rattle.exchange.specs.Runs.{run_from, exchanged}
use Rattle.exchange.proofs.runs.run.Given as goal

-- what is left of the run makes up the whole
abbrev pub invariant-loop-k : goal.invariant-loop-k
invariant-loop-k l = record {
  job : l.exchange.job.now ≡ l.job;
  steps : l.k + (run_from (l.budget - l.k) (problem_of l.job) l.exchange.members.items l.exchange.smallest).steps ≡ (exchanged (problem_of l.job) l.budget).steps;
  ending : (run_from (l.budget - l.k) (problem_of l.job) l.exchange.members.items l.exchange.smallest).ending ≡ (exchanged (problem_of l.job) l.budget).ending;
  smallest : (run_from (l.budget - l.k) (problem_of l.job) l.exchange.members.items l.exchange.smallest).smallest ≡ (exchanged (problem_of l.job) l.budget).smallest;
}
