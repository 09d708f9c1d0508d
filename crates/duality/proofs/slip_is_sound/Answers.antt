use Rattle.duality.proofs.Slip.{slip_sound}
use Rattle.duality.proofs.slip_is_sound.Goals as goal

pub returns : goal.returns
returns c = slip_sound
