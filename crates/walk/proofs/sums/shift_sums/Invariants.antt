use Rattle.job.specs.Numbers.{problem_of}
use Rattle.walk.proofs.Raising.{RaisedBelow}
use Rattle.walk.proofs.sums.shift_sums.Given as goal

abbrev pub invariant-loop-i : goal.invariant-loop-i
invariant-loop-i l = RaisedBelow l.initial.sums l.sums (λ i. (problem_of l.shift.job.now).A i l.shift.rope) l.shift.by l.i
