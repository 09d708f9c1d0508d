use Rattle.std.proofs.Common.{◌≡◌}
use Rattle.job.specs.Numbers.{problem_of}
use Rattle.exchange.specs.Breaches.{upto, worse, worst_row, unbroken}
use Rattle.exchange.specs.declared.members.Limit.TheVariants.{Row, Bound}
use Rattle.exchange.proofs.rounded.Rounded.worst.Given as goal

abbrev pub invariant-loop-i : goal.invariant-loop-i
invariant-loop-i l = l.best ≡ upto (λ b i. worse (problem_of l.self.set.job.now) l.self.set.members.now l.self.pulls.now b (Row i)) unbroken l.i

abbrev pub invariant-loop-j : goal.invariant-loop-j
invariant-loop-j l = l.best ≡ upto (λ b j. worse (problem_of l.self.set.job.now) l.self.set.members.now l.self.pulls.now b (Bound j)) (worst_row (problem_of l.self.set.job.now) l.self.set.members.now l.self.pulls.now) l.j
