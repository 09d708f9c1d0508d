use Rattle.std.proofs.Common.{◌≡◌, Err, rules, sym, ap, ◌∙◌}
use Rattle.duality.specs.Tests.{many_within}
use Rattle.opening.proofs.Firsts.{none_of}
use Rattle.terms.specs.Numbers.{Numbers, numbers_of}
use Rattle.reasons.proofs.Given.{no_grid}
use Rattle.evaluate.specs.Stated.{problem_of}
use Rattle.calls.specs.States.{State, with_numbers}
use Rattle.plan.specs.Inside.{held_inside, held_within}
use Rattle.plan.specs.View.{view}
use Rattle.plan.proofs.Amended.{not_done, kept_numbers, amend_after, amend_answered}
use Rattle.plan.proofs.Refused.{refused_same}
use Rattle.plan.proofs.Insides.{stands_inside}
use Rattle.plan.proofs.state.Plan.amend.Goals as goal

pub invariant_of-self : goal.invariant_of-self
invariant_of-self g c =
    let p = c.args.self.now in
    let same : numbers_of c.amend_terms.new.terms ≡ numbers_of p.terms = kept_numbers _ _ _ _ _ _ c.in_err-amend_terms.ensures.answer c.in_err-amend_terms.ensures.after in
    record {
      inside = ap (λ (x : Numbers). held_inside p.point x.l x.u) same ∙ p.inside;
      pulls = ap (λ (x : Numbers). held_within x.ropes 32768 p.point) same ∙ p.pulls;
      refuters = ap (λ (x : Numbers). held_within x.rows 16777216 p.proof) same ∙ p.refuters;
      bases = ap (λ (x : Numbers). many_within x.ropes 32768 p.pair.point.items) same ∙ p.bases;
      weights = ap (λ (x : Numbers). many_within x.rows 16777216 p.pair.multipliers.items) same ∙ p.weights;
    }

pub returns-in_err-amend_terms-clause-answer : goal.returns-in_err-amend_terms-clause-answer
returns-in_err-amend_terms-clause-answer g c =
    let e : c.from_residual.result ≡ Err c.in_err-amend_terms.field-0.0 = search rules in
    e ∙ refused_same _ _ _ _ c.in_err-amend_terms.ensures.answer

pub returns-in_err-amend_terms-clause-after : goal.returns-in_err-amend_terms-clause-after
returns-in_err-amend_terms-clause-after g c =
    let s : State = view g.G.Table.meant g.A.Table.meant c.args.self.now in
    let same = kept_numbers _ _ _ _ _ _ c.in_err-amend_terms.ensures.answer c.in_err-amend_terms.ensures.after in
    ap (with_numbers s) same ∙ sym (not_done _ _ _ _ s c.in_err-amend_terms.ensures.answer)

pub invariant_of-self-2-clause-inside : goal.invariant_of-self-2-clause-inside
invariant_of-self-2-clause-inside g c =
    stands_inside (problem_of no_grid (g.A.Table.meant c.args.self.now.a) c.amend_terms.new.terms) c.args.self.now.point c.drop_broken.new.point
    c.drop_broken.ensures.pulls (c.drop_broken.ensures.value no_grid)

pub returns-clause-answer : goal.returns-clause-answer
returns-clause-answer g c =
    let s : State = view g.G.Table.meant g.A.Table.meant c.args.self.now in
    amend_answered s c.args.amendment (numbers_of c.amend_terms.new.terms) _ _ (none_of _ _ _ c.in_ok-amend_terms.ensures.answer) c.in_ok-amend_terms.ensures.after
    (c.drop_broken.ensures.value s.g) (c.drop_stale.ensures.value s.g)
    c.drop_broken.result c.drop_stale.result c.drop_broken.ensures.dropped c.drop_stale.ensures.dropped

pub returns-clause-after : goal.returns-clause-after
returns-clause-after g c =
    let s : State = view g.G.Table.meant g.A.Table.meant c.args.self.now in
    amend_after s c.args.amendment (numbers_of c.amend_terms.new.terms) _ _ (none_of _ _ _ c.in_ok-amend_terms.ensures.answer) c.in_ok-amend_terms.ensures.after
    (c.drop_broken.ensures.value s.g) (c.drop_stale.ensures.value s.g)
