use Rattle.duality.proofs.Floor.{slip_floor}
use Rattle.duality.proofs.slip_gives_floor.Goals as goal

pub returns : goal.returns
returns c = slip_floor
