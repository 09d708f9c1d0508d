use Rattle.duality.proofs.Conditions.{conditions_tight}
use Rattle.duality.proofs.conditions_close_gap.Goals as goal

pub returns : goal.returns
returns c = conditions_tight
