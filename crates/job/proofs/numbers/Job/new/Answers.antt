use Rattle.std.proofs.Common.{◌≡◌, true, List, ℤ, Some, None, sym, ap, ◌∙◌}
use Rattle.std.proofs.lemmas.Bool.{cond-true}
use Rattle.terms.specs.Numbers.{ropes_of, rows_of, numbers_of as terms_of}
use Rattle.job.specs.Numbers.{numbers, matrices}
use Rattle.job.proofs.Making.{placed_whole}
use Rattle.job.proofs.numbers.Job.new.Goals as goal

pub invariant_of-result : goal.invariant_of-result
invariant_of-result c =
    let t = c.args.terms in
    let p = placed_whole (ropes_of t) (rows_of t) t.some.1 t.few _ _ _ _ _ _ c.ropes.ensures c.rows.ensures
    (sym c.matrices_fit.ensures ∙ c.if-not-matrices_fit.false) c.placed.ensures.whole c.placed-2.ensures.whole in
    record { matrix = p.matrix; weights = p.weights }

pub returns : goal.returns
returns c =
    let t = c.args.terms in
    let fit : matrices (ropes_of t) (rows_of t) c.args.g.now c.args.a.now ≡ true =
    rw (c.ropes.ensures, c.rows.ensures) at (sym c.matrices_fit.ensures ∙ c.if-not-matrices_fit.false) in
    let p = placed_whole (ropes_of t) (rows_of t) t.some.1 t.few _ _ _ _ _ _ c.ropes.ensures c.rows.ensures
    (sym c.matrices_fit.ensures ∙ c.if-not-matrices_fit.false) c.placed.ensures.whole c.placed-2.ensures.whole in
    ap (λ (xs : List ℤ). Some (numbers (terms_of t) xs c.placed-2.result.items)) p.same_g
    ∙ ap (λ (ys : List ℤ). Some (numbers (terms_of t) c.args.g.now ys)) p.same_a
    ∙ sym (cond-true _ (Some (numbers (terms_of t) c.args.g.now c.args.a.now)) None fit)
