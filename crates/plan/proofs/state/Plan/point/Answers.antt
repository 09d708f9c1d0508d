use Rattle.std.proofs.Common.{List, length, ℤ, refl, ap, ◌∙◌}
use Rattle.terms.specs.Numbers.{ropes_of}
use Rattle.duality.specs.Tests.{many_within}
use Rattle.opening.proofs.Firsts.{none_of}
use Rattle.calls.specs.States.{State, problem}
use Rattle.calls.proofs.Refused.{point_refuses}
use Rattle.plan.specs.View.{view}
use Rattle.reasons.proofs.Fitting.{point_many}
use Rattle.plan.proofs.Refused.{not_ok, decides_lawful}
use Rattle.plan.proofs.Insides.{lies_in, point_inside}
use Rattle.plan.proofs.state.Plan.point.Goals as goal

pub invariant_of-self-clause-inside : goal.invariant_of-self-clause-inside
invariant_of-self-clause-inside g c =
    let s : State = view g.G.Table.meant g.A.Table.meant c.args.self.now in
    ap (λ (x : List ℤ). lies_in (problem s) x (length x)) c.copied.ensures ∙ point_inside (problem s) c.args.z.now (none_of _ _ _ c.in_ok-verdict.ensures)

pub invariant_of-self-clause-pulls : goal.invariant_of-self-clause-pulls
invariant_of-self-clause-pulls g c =
    let s : State = view g.G.Table.meant g.A.Table.meant c.args.self.now in
    ap (many_within (ropes_of c.args.self.now.terms) 32768) c.copied.ensures ∙ point_many (problem s) c.args.z.now (none_of _ _ _ c.in_ok-verdict.ensures)

pub returns-in_err-verdict-clause-lawful : goal.returns-in_err-verdict-clause-lawful
returns-in_err-verdict-clause-lawful g c =
    decides_lawful _ _ _ (point_refuses (problem (view g.G.Table.meant g.A.Table.meant c.args.self.now)) c.args.z.now) c.in_err-verdict.ensures (not_ok _ c.from_residual.ensures.0)

pub returns-then-eq-clause-lawful : goal.returns-then-eq-clause-lawful
returns-then-eq-clause-lawful g c =
    decides_lawful _ _ _ (point_refuses (problem (view g.G.Table.meant g.A.Table.meant c.args.self.now)) c.args.z.now) c.in_ok-verdict.ensures refl

pub returns-else-eq-clause-lawful : goal.returns-else-eq-clause-lawful
returns-else-eq-clause-lawful g c =
    decides_lawful _ _ _ (point_refuses (problem (view g.G.Table.meant g.A.Table.meant c.args.self.now)) c.args.z.now) c.in_ok-verdict.ensures refl
