use Rattle.elimination.proofs.Numbers.{small_is, large_is}
use Rattle.elimination.proofs.pivots.Pivot.can_be_taken.Goals as goal

pub returns-then-self : goal.returns-then-self
returns-then-self c = let t = rw small_is at c.if-self.true in rw (large_is, t)

pub returns-else-self : goal.returns-else-self
returns-else-self c = let t = rw small_is at c.if-self.false in rw (small_is, t)
