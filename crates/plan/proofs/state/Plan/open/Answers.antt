use Rattle.opening.proofs.Firsts.{none_of}
use Rattle.std.proofs.Common.{◌≡◌, length, Err, ap, ◌∙◌, rules}
use Rattle.opening.specs.Opening.{numbers_of}
use Rattle.terms.specs.Numbers.{Numbers, ropes_of, rows_of}
use Rattle.calls.specs.Opened.{viewed}
use Rattle.plan.specs.View.{view}
use Rattle.plan.proofs.Refused.{refused_same}
use Rattle.plan.proofs.Opened.{fitting_is, zeros_fit, lower_fit}
use Rattle.plan.proofs.state.Plan.open.Goals as goal

pub returns-in_err-check_opening-clause-answer : goal.returns-in_err-check_opening-clause-answer
returns-in_err-check_opening-clause-answer g c =
    let e : c.from_residual.result ≡ Err c.in_err-check_opening.field-0.0 = search rules in
    ap (viewed (view g.G.Table.meant g.A.Table.meant)) e ∙ refused_same _ _ _ _ c.in_err-check_opening.ensures.value

pub terms_of-requires : goal.terms_of-requires
terms_of-requires g c =
    fitting_is (g.G.Table.meant c.args.g) (g.A.Table.meant c.args.a) (numbers_of c.args.lists.now) (none_of _ _ _ c.in_ok-check_opening.ensures.value)

pub invariant_of-result-clause-bases : goal.invariant_of-result-clause-bases
invariant_of-result-clause-bases g c =
    let x = numbers_of c.args.lists.now in
    let n : ropes_of c.terms_of.result ≡ length x.c = ap (λ (t : Numbers). t.ropes) c.terms_of.ensures in
    lower_fit (g.G.Table.meant c.args.g) (g.A.Table.meant c.args.a) x (none_of _ _ _ c.in_ok-check_opening.ensures.value) _ _ n c.unweighted.ensures.point

pub invariant_of-result-clause-weights : goal.invariant_of-result-clause-weights
invariant_of-result-clause-weights g c =
    let x = numbers_of c.args.lists.now in
    let m : rows_of c.terms_of.result ≡ length x.lo = ap (λ (t : Numbers). t.rows) c.terms_of.ensures in
    zeros_fit _ _ 16777216 _ m c.unweighted.ensures.multipliers
