use Rattle.std.proofs.Common.{◌+ℤ◌}
use Rattle.job.specs.Numbers.{problem_of}
use Rattle.walk.proofs.Raising.{RaisedBelow}
use Rattle.walk.proofs.slopes.shift_slopes.Given as goal

abbrev pub invariant-loop-i : goal.invariant-loop-i
invariant-loop-i l =
    RaisedBelow l.initial.slopes l.slopes (λ i. (problem_of l.shift.job.now).G i l.shift.rope +ℤ (problem_of l.shift.job.now).G l.shift.rope i) l.shift.by l.i
