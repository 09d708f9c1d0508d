use Rattle.std.proofs.Common.{ap, ◌∙◌, to_z, of_z}
use mir.Syntax.{w128}
use Rattle.std.proofs.lemmas.Int.{to_z-of_z}
use Rattle.std.proofs.Common.{ℤ}
use Rattle.table.specs.Layers.{flipped}
use Rattle.job.specs.Numbers.{Numbers as JobNumbers, problem, problem_of}
use Rattle.reading.specs.Listings.{grid_of}
use Rattle.reading.proofs.Listings.{shown_agrees}
use Rattle.calls.specs.States.{State, problem as in_force, floor_of}
use Rattle.calls.specs.Refusing.{pair_refusal}
use Rattle.calls.specs.Steps.{unless}
use Rattle.plan.specs.Bettering.{above}
use Rattle.plan.specs.View.{pair_of, view}
use Rattle.plan.proofs.Offering.{judged_pair_same}
use Rattle.plan.proofs.state.Plan.better_floor.Goals as goal

pub returns : goal.returns
returns g c =
    let s : State = view g.G.Table.meant g.A.Table.meant c.args.self.now in
    let q = pair_of c.args.pair in
    let h = grid_of c.curvature.result in
    let b = flipped (grid_of c.rows.result.below) in
    judged_pair_same s.g s.a h b s.numbers (shown_agrees s.g s.a h b s.numbers (problem_of c.args.job.now) (ap problem c.requires) c.curvature.ensures.law c.rows.ensures.law)
    _ (ap (λ (x : JobNumbers). x.terms) c.requires) q (to_z w128 (of_z w128 c.args.held)) _ c.better_floor.ensures
    ∙ ap (λ (v : ℤ). unless (pair_refusal (in_force s) q) (above v (floor_of (in_force s) q))) (to_z-of_z w128 c.args.held c.ranges.held)
