use Rattle.std.proofs.Common.{List, ℤ, length, ap, ◌∙◌}
use Rattle.terms.specs.Numbers.{ropes_of}
use Rattle.duality.specs.Tests.{many_within}
use Rattle.opening.proofs.Firsts.{none_of}
use Rattle.calls.specs.States.{State, problem}
use Rattle.reasons.proofs.Fitting.{point_many}
use Rattle.plan.specs.View.{view}
use Rattle.plan.proofs.Insides.{lies_in, point_inside}
use Rattle.plan.proofs.state.Plan.offer_point.Goals as goal

pub invariant_of-self-clause-inside : goal.invariant_of-self-clause-inside
invariant_of-self-clause-inside g c =
    let s : State = view g.G.Table.meant g.A.Table.meant c.args.self.now in
    ap (λ (x : List ℤ). lies_in (problem s) x (length x)) c.copied.ensures ∙ point_inside (problem s) c.args.z.now (none_of _ _ _ c.in-Ok-Some.ensures)

pub invariant_of-self-clause-pulls : goal.invariant_of-self-clause-pulls
invariant_of-self-clause-pulls g c =
    let s : State = view g.G.Table.meant g.A.Table.meant c.args.self.now in
    ap (many_within (ropes_of c.args.self.now.terms) 32768) c.copied.ensures ∙ point_many (problem s) c.args.z.now (none_of _ _ _ c.in-Ok-Some.ensures)
