use Rattle.std.proofs.Common.{◌≡◌, ℕ, ◌+◌, ◌<◌, [], length, get_or, take}
use Rattle.job.specs.Numbers.{problem_of}
use Rattle.exchange.specs.Systems.{size_of, floats, member_line, member_at}
use Rattle.exchange.proofs.working.WorkingSet.write_member_lines.Given as goal

-- the lines so far, each still as long as the square is wide
abbrev pub invariant-loop-k : goal.invariant-loop-k
invariant-loop-k l =
    ((i : ℕ) → i < l.k → take (size_of (problem_of l.self.job.now) l.self.members.now + 1) (get_or l.lines i []) ≡ floats (member_line (problem_of l.self.job.now) l.self.members.now (member_at l.self.members.now i)))
    × ((i : ℕ) → i < length l.lines → length (get_or l.lines i []) ≡ 33)
