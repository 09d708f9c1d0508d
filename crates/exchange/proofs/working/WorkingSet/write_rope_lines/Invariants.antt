use Rattle.std.proofs.Common.{◌≡◌, ℕ, ◌+◌, ◌<◌, [], length, get_or, take}
use Rattle.job.specs.Numbers.{problem_of}
use Rattle.exchange.specs.Systems.{size_of, floats, rope_line}
use Rattle.exchange.proofs.working.WorkingSet.write_rope_lines.Given as goal

-- the lines so far, each still as long as the square is wide
abbrev pub invariant-loop-r : goal.invariant-loop-r
invariant-loop-r l =
    ((i : ℕ) → i < l.r → take (size_of (problem_of l.self.job.now) l.self.members.now + 1) (get_or l.lines i []) ≡ floats (rope_line (problem_of l.self.job.now) l.self.members.now i))
    × ((i : ℕ) → i < length l.lines → length (get_or l.lines i []) ≡ 33)
