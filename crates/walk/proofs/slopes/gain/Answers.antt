use Rattle.walk.proofs.Gaining.{gain_fits, gain_is}
use Rattle.walk.proofs.slopes.gain.Goals as goal

pub overflow_mul-result-2 : goal.overflow_mul-result-2
overflow_mul-result-2 c = gain_fits c.args.slope c.args.curve c.args.d c.requires.slope c.requires.curve c.requires.d

pub returns : goal.returns
returns c = gain_is c.args.slope c.args.curve c.args.d c.requires.slope c.requires.curve c.requires.d
