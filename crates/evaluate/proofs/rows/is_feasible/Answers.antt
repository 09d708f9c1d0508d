use Rattle.std.proofs.Common.{Bool, false, ◌&&◌, is_ok, Some, None, sym, ap, ◌∙◌}
use Rattle.terms.specs.Numbers.{ropes_of, rows_of}
use Rattle.std.proofs.lemmas.Bool.{cond-false, and_left, eq-eqb}
use Rattle.duality.specs.Lists.{places}
use Rattle.duality.specs.Tests.{all}
use Rattle.table.specs.Grid.{Grid, matrix_of}
use Rattle.evaluate.specs.Stated.{problem_of}
use Rattle.evaluate.specs.Findings.{feasible}
use Rattle.evaluate.proofs.Bounding.{lies, meets}
use Rattle.terms.proofs.Reading.{many_long}
use Rattle.evaluate.proofs.Reading.{answered}
use Rattle.evaluate.proofs.Firsts.{decided, no_point, at_point, kept_point, ok_all}
use Rattle.evaluate.proofs.rows.is_feasible.Goals as goal

pub returns-in-Ok : goal.returns-in-Ok
returns-in-Ok g c =
    let t = c.args.terms.now in
    let z = c.args.z.now in
    let grid = g.T.Table.meant c.args.a.now in
    let p = kept_point _ (meets (matrix_of grid) t z) (rows_of t) _ (c.in-Ok.ensures.value grid) in
    let long = eq-eqb _ _ (many_long _ 1073741824 z p.0) in
    let yes' = λ (h : Grid).
    c.is_ok.ensures.value
    ∙ ap is_ok (c.check_bounds.ensures.value h grid)
    ∙ ok_all _ (lies t z) (ropes_of t) long
    ∙ sym (ap (λ (b : Bool). b && all (lies t z) (ropes_of t)) p.1) in
    record { value = λ h. answered _ _ _ p.0 (yes' h); law = λ h. decided (problem_of h grid t) (places z) _ (yes' h) }

pub returns-in-Err-At : goal.returns-in-Err-At
returns-in-Err-At g c =
    let t = c.args.terms.now in
    let z = c.args.z.now in
    let grid = g.T.Table.meant c.args.a.now in
    let p = at_point _ (meets (matrix_of grid) t z) _ (rows_of t) (rw c.in-Err-At.field-0-is at (c.in-Err-At.ensures.value grid)) in
    let no' = sym (and_left _ (all (lies t z) (ropes_of t)) p.1) in
    record { value = λ h. answered _ _ _ p.0 no'; law = λ h. decided (problem_of h grid t) (places z) false no' }

pub returns-in-Err-NoPoint : goal.returns-in-Err-NoPoint
returns-in-Err-NoPoint g c =
    let t = c.args.terms.now in
    let z = c.args.z.now in
    let grid = g.T.Table.meant c.args.a.now in
    let p = no_point _ (meets (matrix_of grid) t z) (rows_of t) (rw c.in-Err-NoPoint.field-0-is at (c.in-Err-NoPoint.ensures.value grid)) in
    record {
      value = λ h. sym (cond-false _ (Some (feasible (problem_of h grid t) (places z))) None p);
      law = λ h. tt;
    }
