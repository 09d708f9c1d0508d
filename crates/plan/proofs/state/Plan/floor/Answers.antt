use Rattle.std.proofs.Common.{refl, ap, ◌∙◌}
use Rattle.terms.specs.Numbers.{ropes_of, rows_of}
use Rattle.duality.specs.Tests.{many_within}
use Rattle.opening.proofs.Firsts.{none_of}
use Rattle.calls.specs.States.{State, Pair, problem}
use Rattle.calls.proofs.Refused.{pair_refuses}
use Rattle.plan.specs.View.{pair_of, view}
use Rattle.reasons.proofs.Fitting.{pair_many}
use Rattle.plan.proofs.Refused.{not_ok, decides_lawful}
use Rattle.plan.proofs.state.Plan.floor.Goals as goal

pub invariant_of-self-clause-bases : goal.invariant_of-self-clause-bases
invariant_of-self-clause-bases g c =
    let s : State = view g.G.Table.meant g.A.Table.meant c.args.self.now in
    let q : Pair = pair_of c.args.pair in
    ap (many_within (ropes_of c.args.self.now.terms) 32768) c.copied.ensures ∙ (pair_many (problem s) q (none_of _ _ _ c.in_ok-verdict.ensures)).0

pub invariant_of-self-clause-weights : goal.invariant_of-self-clause-weights
invariant_of-self-clause-weights g c =
    let s : State = view g.G.Table.meant g.A.Table.meant c.args.self.now in
    let q : Pair = pair_of c.args.pair in
    ap (many_within (rows_of c.args.self.now.terms) 16777216) c.copied-then-eq.ensures ∙ (pair_many (problem s) q (none_of _ _ _ c.in_ok-verdict.ensures)).1

pub returns-in_err-verdict-clause-lawful : goal.returns-in_err-verdict-clause-lawful
returns-in_err-verdict-clause-lawful g c =
    decides_lawful _ _ _ (pair_refuses (problem (view g.G.Table.meant g.A.Table.meant c.args.self.now)) (pair_of c.args.pair)) c.in_err-verdict.ensures (not_ok _ c.from_residual.ensures.0)

pub returns-then-eq-clause-lawful : goal.returns-then-eq-clause-lawful
returns-then-eq-clause-lawful g c =
    decides_lawful _ _ _ (pair_refuses (problem (view g.G.Table.meant g.A.Table.meant c.args.self.now)) (pair_of c.args.pair)) c.in_ok-verdict.ensures refl

pub returns-else-eq-clause-lawful : goal.returns-else-eq-clause-lawful
returns-else-eq-clause-lawful g c =
    decides_lawful _ _ _ (pair_refuses (problem (view g.G.Table.meant g.A.Table.meant c.args.self.now)) (pair_of c.args.pair)) c.in_ok-verdict.ensures refl
