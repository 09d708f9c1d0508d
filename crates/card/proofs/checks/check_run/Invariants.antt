use Rattle.std.proofs.Common.{◌≡◌, ◌+◌, ◌≤◌}
use Rattle.block.specs.Kinds.{letter_of}
use Rattle.section.specs.Layout.{blocks_for}
use Rattle.card.specs.Faults.{run_check}
use Rattle.card.proofs.checks.check_run.Given as goal

-- what is left gives the answer
abbrev pub invariant-loop-number : goal.invariant-loop-number
invariant-loop-number l =
    (run_check l.card (letter_of l.kind) l.number l.left (blocks_for l.left) ≡ run_check l.card (letter_of l.kind) l.first l.count (blocks_for l.count))
    × (l.number + blocks_for l.left ≡ l.first + blocks_for l.count) × (l.left ≤ l.count)
