use Rattle.std.proofs.Common.{ap}
use Rattle.table.specs.Layers.{flipped}
use Rattle.job.specs.Numbers.{Numbers as JobNumbers, problem, problem_of}
use Rattle.reading.specs.Listings.{grid_of}
use Rattle.reading.proofs.Listings.{shown_agrees}
use Rattle.calls.specs.States.{State}
use Rattle.plan.specs.View.{view}
use Rattle.plan.proofs.Offering.{judged_point_same}
use Rattle.plan.proofs.state.Plan.better_cost.Goals as goal

pub returns : goal.returns
returns g c =
    let s : State = view g.G.Table.meant g.A.Table.meant c.args.self.now in
    let h = grid_of c.curvature.result in
    let b = flipped (grid_of c.rows.result.below) in
    judged_point_same s.g s.a h b s.numbers (shown_agrees s.g s.a h b s.numbers (problem_of c.args.job.now) (ap problem c.requires) c.curvature.ensures.law c.rows.ensures.law)
    _ (ap (λ (x : JobNumbers). x.terms) c.requires) c.args.z.now c.args.held _ c.better_cost.ensures
