use Rattle.std.proofs.Common.{◌∙◌}
use Rattle.job.specs.Numbers.{problem_of}
use Rattle.job.proofs.Holding.{in_bounds_decides, wrong_length, none_outside}
use Rattle.job.proofs.numbers.Job.in_bounds.Goals as goal

pub returns-then-z-ropes : goal.returns-then-z-ropes
returns-then-z-ropes c =
    let e = none_outside c.args.self.now c.args.z.now _ _ _ _ c.deref.ensures.0 c.deref-then-z-ropes.ensures.0 (c.if-z-ropes.true ∙ c.ropes.ensures) c.first_outside.ensures c.is_none.ensures in
    record { value = e; law = in_bounds_decides (problem_of c.args.self.now) c.args.z.now _ e }

pub returns-else-z-ropes : goal.returns-else-z-ropes
returns-else-z-ropes c =
    let e = wrong_length (problem_of c.args.self.now) c.args.z.now _ c.ropes.ensures c.if-z-ropes.false in
    record { value = e; law = in_bounds_decides (problem_of c.args.self.now) c.args.z.now _ e }
