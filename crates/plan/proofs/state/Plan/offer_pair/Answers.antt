use Rattle.std.proofs.Common.{ap, ◌∙◌}
use Rattle.terms.specs.Numbers.{ropes_of, rows_of}
use Rattle.duality.specs.Tests.{many_within}
use Rattle.opening.proofs.Firsts.{none_of}
use Rattle.calls.specs.States.{State, Pair, problem}
use Rattle.plan.specs.View.{pair_of, view}
use Rattle.reasons.proofs.Fitting.{pair_many}
use Rattle.plan.proofs.state.Plan.offer_pair.Goals as goal

pub invariant_of-self-clause-bases : goal.invariant_of-self-clause-bases
invariant_of-self-clause-bases g c =
    let s : State = view g.G.Table.meant g.A.Table.meant c.args.self.now in
    let q : Pair = pair_of c.args.pair in
    ap (many_within (ropes_of c.args.self.now.terms) 32768) c.copied.ensures ∙ (pair_many (problem s) q (none_of _ _ _ c.in-Ok-Some.ensures)).0

pub invariant_of-self-clause-weights : goal.invariant_of-self-clause-weights
invariant_of-self-clause-weights g c =
    let s : State = view g.G.Table.meant g.A.Table.meant c.args.self.now in
    let q : Pair = pair_of c.args.pair in
    ap (many_within (rows_of c.args.self.now.terms) 16777216) c.copied-in-Ok-Some.ensures ∙ (pair_many (problem s) q (none_of _ _ _ c.in-Ok-Some.ensures)).1
