use Rattle.std.proofs.Common.{◌≡◌, ◌-◌}
use Rattle.job.specs.Numbers.{problem_of}
use Rattle.walk.specs.Lowering.{lowers}
use Rattle.walk.specs.Walks.{first, first_move}
use Rattle.walk.proofs.Firsts.{ropes_from}
use Rattle.walk.proofs.searches.search.Given as goal

abbrev pub invariant-loop-rope : goal.invariant-loop-rope
invariant-loop-rope l = (l.z ≡ l.initial.z) × (first (lowers (problem_of l.room.job.now) l.initial.z) (ropes_from l.rope ((problem_of l.room.job.now).ropes - l.rope)) ≡ first_move (problem_of l.room.job.now) l.initial.z)
