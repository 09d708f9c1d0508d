use Rattle.duality.proofs.Refutation.{none_sound}
use Rattle.duality.proofs.refutation_is_sound.Goals as goal

pub returns : goal.returns
returns c = none_sound
