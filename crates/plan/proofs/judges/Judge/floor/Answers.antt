use Rattle.std.proofs.lemmas.Bool.{and_from}
use Rattle.job.proofs.Given.{given}
use Rattle.plan.proofs.judges.Judge.floor.Goals as goal

pub unwrap-requires : goal.unwrap-requires
unwrap-requires g c = given _ _ _ c.floor.ensures.value (and_from _ _ c.requires.point c.requires.multipliers)
