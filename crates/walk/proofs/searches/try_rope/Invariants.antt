use Rattle.std.proofs.Common.{◌≡◌}
use Rattle.job.specs.Numbers.{problem_of}
use Rattle.walk.specs.Lowering.{lowers}
use Rattle.walk.specs.Moves.{of_rope}
use Rattle.walk.specs.Walks.{first}
use Rattle.walk.proofs.Firsts.{left_of}
use Rattle.walk.proofs.AlongSizes.{left_in}
use Rattle.walk.proofs.searches.try_rope.Given as goal

abbrev pub invariant-loop-size : goal.invariant-loop-size
invariant-loop-size l = (l.z ≡ l.fn.z) × (first (lowers (problem_of l.room.job.now) l.fn.z) (left_of l.rope l.size-index) ≡ first (lowers (problem_of l.room.job.now) l.fn.z) (of_rope l.rope))

abbrev pub invariant-loop-by : goal.invariant-loop-by
invariant-loop-by l =
    (l.z ≡ l.fn.z) × (first (lowers (problem_of l.room.job.now) l.fn.z) (left_in l.rope l.size-index l.size l.by-index) ≡ first (lowers (problem_of l.room.job.now) l.fn.z) (of_rope l.rope))
