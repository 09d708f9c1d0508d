use Rattle.elimination.proofs.Numbers.{bound_is}
use Rattle.elimination.proofs.unknowns.is_inside.Goals as goal

pub returns : goal.returns
returns c = rw (bound_is, c.abs.ensures.value)
