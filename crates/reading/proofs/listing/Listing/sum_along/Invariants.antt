use Rattle.std.proofs.Common.{◌≡◌}
use Rattle.duality.specs.Lists.{places, by_rows}
use Rattle.duality.specs.Sums.{dot}
use Rattle.reading.proofs.listing.Listing.sum_along.Given as goal

abbrev pub invariant-loop-j : goal.invariant-loop-j
invariant-loop-j l = l.sum ≡ dot l.j (by_rows l.self.width l.self.numbers.now l.i) (places l.xs)
