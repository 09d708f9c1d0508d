use Rattle.std.proofs.Common.{◌≡◌, ◌-◌}
use Rattle.job.specs.Bounds.{InBounds}
use Rattle.job.specs.Numbers.{problem_of}
use Rattle.walk.specs.Running.{Tracks}
use Rattle.walk.specs.Walks.{walk_from}
use Rattle.walk.proofs.Turns.{plus}
use Rattle.walk.proofs.walks.descend.Given as goal

abbrev pub invariant-loop-moves : goal.invariant-loop-moves
invariant-loop-moves l =
    record {
      same : l.room.job.now ≡ l.job;
      inside : InBounds (problem_of l.room.job.now) l.z;
      tracks : Tracks l.room.job.now l.z l.room;
      rest : plus l.moves (walk_from (problem_of l.job) (l.budget - l.moves) l.z) ≡ walk_from (problem_of l.job) l.budget l.initial.z;
    }
