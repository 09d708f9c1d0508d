use Rattle.duality.proofs.Floor.{gap_closed}
use Rattle.duality.proofs.closed_gap_is_optimal.Goals as goal

pub returns : goal.returns
returns c = gap_closed
