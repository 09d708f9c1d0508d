use Rattle.std.proofs.Common.{◌≡◌, ℕ, ◌<◌, get_or}
use lib.Ieee.{nan, binary64, of_int}
use Rattle.duality.specs.Lists.{places}
use Rattle.exchange.proofs.systems.write.Given as goal

abbrev pub invariant-loop-k : goal.invariant-loop-k
invariant-loop-k l = (i : ℕ) → i < l.k → get_or l.line i nan ≡ of_int binary64 (places l.xs i)
