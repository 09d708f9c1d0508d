use Rattle.std.proofs.Common.{ap, ◌∙◌, rules}
use mir.Syntax.{w128}
use mir.Val.{SFits}
use Rattle.std.proofs.lemmas.Int.{to_z-of_z}
use Rattle.duality.specs.Tests.{many_within}
use Rattle.table.specs.Layers.{flipped}
use Rattle.job.specs.Numbers.{Numbers as JobNumbers, problem, problem_of}
use Rattle.reading.specs.Listings.{grid_of}
use Rattle.reading.proofs.Listings.{shown_agrees}
use Rattle.calls.specs.States.{State}
use Rattle.plan.specs.View.{pair_of, view}
use Rattle.plan.proofs.Offering.{read_floor_is}
use Rattle.plan.proofs.state.Plan.read_floor.Goals as goal

pub floor-requires : goal.floor-requires
floor-requires g c =
    let q = pair_of c.args.pair in
    record {
      point = ap (λ (x : JobNumbers). many_within x.terms.ropes 32768 q.point) c.requires.same ∙ c.requires.point;
      multipliers = ap (λ (x : JobNumbers). many_within x.terms.rows 16777216 q.multipliers) c.requires.same ∙ c.requires.multipliers;
    }

pub returns : goal.returns
returns g c =
    let s : State = view g.G.Table.meant g.A.Table.meant c.args.self.now in
    let h = grid_of c.curvature.result in
    let b = flipped (grid_of c.rows.result.below) in
    let fits : SFits w128 c.floor.result = search rules in
    to_z-of_z w128 _ fits ∙ c.floor.ensures
    ∙ read_floor_is s.g s.a h b s.numbers (shown_agrees s.g s.a h b s.numbers (problem_of c.args.job.now) (ap problem c.requires.same) c.curvature.ensures.law c.rows.ensures.law)
    _ (ap (λ (x : JobNumbers). x.terms) c.requires.same) (pair_of c.args.pair)
