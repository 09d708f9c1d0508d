use Rattle.job.proofs.Given.{given}
use Rattle.plan.proofs.judges.Judge.cost.Goals as goal

pub unwrap-requires : goal.unwrap-requires
unwrap-requires g c = given _ _ _ (c.cost.ensures (g.A.Table.meant c.args.self.now.a.now)) c.requires
