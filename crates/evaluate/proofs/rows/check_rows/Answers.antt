use Rattle.std.proofs.Common.{◌≡◌, true, false, length, sym, ap, ◌∙◌, le_refl, arith}
use Rattle.terms.specs.Numbers.{rows_of}
use Rattle.duality.specs.Lists.{places}
use Rattle.duality.specs.Tests.{first_not}
use Rattle.duality.proofs.Tests.{first_more}
use Rattle.table.specs.Grid.{matrix_of}
use Rattle.table.proofs.Bounds.{matrix_near}
use Rattle.evaluate.specs.Stated.{problem_of}
use Rattle.evaluate.specs.Findings.{RowKept}
use Rattle.evaluate.proofs.Summing.{row_back}
use Rattle.terms.proofs.Reading.{lo_item, hi_item, many_at, many_long}
use Rattle.evaluate.proofs.Reading.{summable}
use Rattle.evaluate.proofs.Firsts.{row_decides, finds, found_broken, found_kept}
use Rattle.evaluate.proofs.Bounding.{meets, meets_is}
use Rattle.evaluate.proofs.rows.check_rows.Goals as goal

pub row_of-requires : goal.row_of-requires
row_of-requires g c =
    let p = many_at _ _ 1073741824 c.args.z.now c.ropes.ensures (sym c.if-not-many_within.ensures) in
    summable c.args.terms.now 1073741824 c.args.z.now (le_refl 1073741824) p

pub returns-then-not-between : goal.returns-then-not-between
returns-then-not-between g c =
    let t = c.args.terms.now in
    let z = c.args.z.now in
    let grid = g.T.Table.meant c.args.a.now in
    let p = many_at _ _ 1073741824 z c.ropes.ensures (sym c.if-not-many_within.ensures) in
    let same = c.deref-low-items.ensures.0 in
    let lo = lo_item t c.loop-i.i _ same in
    let hi = hi_item t c.loop-i.i _ c.deref.ensures.0 in
    let s = row_back (matrix_of grid) (matrix_near grid) z (summable t 1073741824 z (le_refl 1073741824) p) c.loop-i.i c.row_of.result c.row_of.ensures in
    let no' = meets_is (matrix_of grid) t z c.loop-i.i _ _ _ false (many_long _ 1073741824 z p) lo hi s c.if-not-between.ensures in
    let e = found_broken _ (meets (matrix_of grid) t z) c.loop-i.i (rows_of t) p c.loop-i.invariant no' (omega (arith, ap length same)) in
    record {
      value = λ h. e;
      law = λ h. finds _ (meets (matrix_of grid) t z) (RowKept (problem_of h grid t) (places z)) (row_decides (problem_of h grid t) (places z)) (rows_of t) _ e;
    }

pub loop-i-preserved : goal.loop-i-preserved
loop-i-preserved g c =
    let t = c.args.terms.now in
    let z = c.args.z.now in
    let grid = g.T.Table.meant c.args.a.now in
    let p = many_at _ _ 1073741824 z c.ropes.ensures (sym c.if-not-many_within.ensures) in
    let same = c.deref-low-items.ensures.0 in
    let lo = lo_item t c.loop-i.i _ same in
    let hi = hi_item t c.loop-i.i _ c.deref.ensures.0 in
    let s = row_back (matrix_of grid) (matrix_near grid) z (summable t 1073741824 z (le_refl 1073741824) p) c.loop-i.i c.row_of.result c.row_of.ensures in
    first_more (meets (matrix_of grid) t z) c.loop-i.i c.loop-i.invariant
    (meets_is (matrix_of grid) t z c.loop-i.i _ _ _ true (many_long _ 1073741824 z p) lo hi s c.if-not-between.ensures)

pub returns : goal.returns
returns g c =
    let t = c.args.terms.now in
    let z = c.args.z.now in
    let grid = g.T.Table.meant c.args.a.now in
    let p = many_at _ _ 1073741824 z c.ropes.ensures (sym c.if-not-many_within.ensures) in
    let same = c.deref-low-items.ensures.0 in
    let e : c.loop-i.i ≡ rows_of t = omega (arith, ap length same) in
    let all = found_kept _ (meets (matrix_of grid) t z) (rows_of t) p (ap (first_not (meets (matrix_of grid) t z)) (sym e) ∙ c.loop-i.invariant) in
    record {
      value = λ h. all;
      law = λ h. finds _ (meets (matrix_of grid) t z) (RowKept (problem_of h grid t) (places z)) (row_decides (problem_of h grid t) (places z)) (rows_of t) _ all;
    }
