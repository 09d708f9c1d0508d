use Rattle.std.proofs.Common.{refl}
use Rattle.tried.specs.Cases.{cases}
use Rattle.tried.proofs.Computed.{all_hold}
use Rattle.tried.proofs.tried_cases.Goals as goal

pub returns : goal.returns
unfolding cases
returns c = record { hold = all_hold; count = refl }
