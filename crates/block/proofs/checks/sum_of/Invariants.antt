use Rattle.std.proofs.Common.{◌≡◌, ◌*◌, ◌≤◌, take}
use Rattle.block.specs.Blocks.{weighed}
use Rattle.block.proofs.checks.sum_of.Given as goal

-- the sum so far, and a bound that keeps it far from 2 ^ 32
abbrev pub invariant-loop-k : goal.invariant-loop-k
invariant-loop-k l = (l.total ≡ weighed 0 (take l.k l.byte-items)) × (l.total ≤ 130050 * l.k)
