use Rattle.std.proofs.Common.{◌≡◌, ◌++◌, map, take, drop}
use Rattle.exchange.specs.Rounding.{in_parts}
use Rattle.exchange.proofs.rounds.in_parts.Given as goal

abbrev pub invariant-loop-y : goal.invariant-loop-y
invariant-loop-y l = l.unknowns ≡ map in_parts (take l.y-index l.initial.unknowns) ++ drop l.y-index l.initial.unknowns
