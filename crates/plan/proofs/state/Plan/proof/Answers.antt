use Rattle.std.proofs.Common.{refl, ap, ◌∙◌}
use Rattle.terms.specs.Numbers.{rows_of}
use Rattle.duality.specs.Tests.{many_within}
use Rattle.opening.proofs.Firsts.{none_of}
use Rattle.calls.specs.States.{State, problem}
use Rattle.calls.proofs.Refused.{proof_refuses}
use Rattle.plan.specs.View.{view}
use Rattle.reasons.proofs.Fitting.{proof_many}
use Rattle.plan.proofs.Refused.{not_ok, decides_lawful}
use Rattle.plan.proofs.state.Plan.proof.Goals as goal

pub invariant_of-self-clause-refuters : goal.invariant_of-self-clause-refuters
invariant_of-self-clause-refuters g c =
    let s : State = view g.G.Table.meant g.A.Table.meant c.args.self.now in
    ap (many_within (rows_of c.args.self.now.terms) 16777216) c.copied.ensures ∙ proof_many (problem s) c.args.y.now (none_of _ _ _ c.in_ok-verdict.ensures)

pub returns-in_err-verdict-clause-lawful : goal.returns-in_err-verdict-clause-lawful
returns-in_err-verdict-clause-lawful g c =
    decides_lawful _ _ _ (proof_refuses (problem (view g.G.Table.meant g.A.Table.meant c.args.self.now)) c.args.y.now) c.in_err-verdict.ensures (not_ok _ c.from_residual.ensures.0)

pub returns-then-eq-clause-lawful : goal.returns-then-eq-clause-lawful
returns-then-eq-clause-lawful g c =
    decides_lawful _ _ _ (proof_refuses (problem (view g.G.Table.meant g.A.Table.meant c.args.self.now)) c.args.y.now) c.in_ok-verdict.ensures refl

pub returns-else-eq-clause-lawful : goal.returns-else-eq-clause-lawful
returns-else-eq-clause-lawful g c =
    decides_lawful _ _ _ (proof_refuses (problem (view g.G.Table.meant g.A.Table.meant c.args.self.now)) c.args.y.now) c.in_ok-verdict.ensures refl
