use Rattle.evaluate.specs.Stated.{problem_of}
use Rattle.opening.proofs.Firsts.{none_of}
use Rattle.reasons.proofs.Given.{given}
use Rattle.reasons.proofs.Fitting.{point_many}
use Rattle.plan.proofs.judges.Judge.better_cost.Goals as goal

pub unwrap-cost-requires : goal.unwrap-cost-requires
unwrap-cost-requires g c =
    let j = c.args.self.now in
    let P = problem_of (g.G.Table.meant j.g.now) (g.A.Table.meant j.a.now) j.terms.now in
    given _ _ _ (c.cost.ensures (g.A.Table.meant j.a.now)) (point_many P c.args.z.now (none_of _ _ _ (c.in_ok-check_point.ensures (g.G.Table.meant j.g.now))))
