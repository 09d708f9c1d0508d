use Rattle.calls.proofs.Running.{as_one}
use Rattle.calls.proofs.laws.runs_compose.Goals as goal

pub returns : goal.returns
returns c = as_one
