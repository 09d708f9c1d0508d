use Rattle.std.proofs.Common.{refl}
use Rattle.elimination.proofs.Numbers.{large_is}
use Rattle.exchange.proofs.exchanges.Exchange.new.Goals as goal

pub returns : goal.returns
returns c = record { job = refl; members = c.new.ensures; smallest = large_is }
