use Rattle.duality.proofs.Floor.{floor_sound}
use Rattle.duality.proofs.floor_is_sound.Goals as goal

pub returns : goal.returns
returns c = floor_sound
