use Rattle.std.proofs.Common.{◌≡◌, ◌-◌, drop, take, replicate, length, Some}
use Rattle.elimination.specs.Lines.{unknowns_of, none}
use Rattle.elimination.proofs.unknowns.back_substitute.Given as goal

-- the unknowns from line k on, and then zeros
abbrev pub invariant-loop-k : goal.invariant-loop-k
invariant-loop-k l =
    (unknowns_of (length l.lines) l.k (drop l.k l.lines) ≡ Some (drop l.k (take (length l.lines) l.unknowns)))
    × (length l.unknowns ≡ 32) × (drop (length l.lines) l.unknowns ≡ replicate (32 - length l.lines) none)
