use Rattle.std.proofs.Common.{◌≡◌, true, false}
use lib.Ieee.{lt}
use Rattle.elimination.specs.Lines.{largest}
use Rattle.elimination.proofs.Numbers.{large_is, zero_is}
use Rattle.exchange.proofs.exchanges.Exchange.smallest_pivot.Goals as goal

pub returns-then-self : goal.returns-then-self
returns-then-self c = let t : lt c.args.self.now.smallest largest ≡ true = rw large_is at c.if-self.true in rw t

pub returns-else-self : goal.returns-else-self
returns-else-self c = let t : lt c.args.self.now.smallest largest ≡ false = rw large_is at c.if-self.false in rw (t, zero_is)
