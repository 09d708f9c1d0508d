use Rattle.std.proofs.Common.{◌≡◌, ◌-◌, map, length, take, drop, replicate, pos}
use Rattle.elimination.specs.Nearest.{nearest}
use Rattle.exchange.proofs.rounds.rounded.Given as goal

-- what is rounded, and then zeros
abbrev pub invariant-loop-k : goal.invariant-loop-k
invariant-loop-k l = (take l.k l.whole ≡ map nearest (take l.k l.unknowns)) × (drop l.k l.whole ≡ replicate (16 - l.k) (pos 0)) × (length l.whole ≡ 16)
