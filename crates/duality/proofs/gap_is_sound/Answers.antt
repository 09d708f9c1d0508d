use Rattle.duality.proofs.Floor.{gap_sound}
use Rattle.duality.proofs.gap_is_sound.Goals as goal

pub returns : goal.returns
returns c = gap_sound
