use Rattle.std.proofs.Common.{◌≡◌, ℕ, ◌<◌, get_or, pos}
use Rattle.exchange.specs.Offers.{pressure_of}
use Rattle.exchange.specs.declared.members.Limit.TheVariants.{Row}
use Rattle.exchange.proofs.rounded.Rounded.fill_multipliers.Given as goal

abbrev pub invariant-loop-i : goal.invariant-loop-i
invariant-loop-i l = (k : ℕ) → k < l.i → get_or l.multipliers k (pos 0) ≡ pressure_of l.self.set.members.now l.self.pressures.now (Row k)
