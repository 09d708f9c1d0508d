use Rattle.std.proofs.Common.{ℤ, pos, Option, unwrap_or, ap, ◌∙◌}
use Rattle.table.specs.Grid.{matrix_of}
use Rattle.table.proofs.Bounds.{matrix_near}
use Rattle.evaluate.proofs.Summing.{product_fits, sum_fits, row_more}
use Rattle.evaluate.proofs.sums.sum_of_places.Goals as goal

pub overflow_mul-sum : goal.overflow_mul-sum
overflow_mul-sum g c =
    let grid = g.T.Table.meant c.args.table.now in
    let ex = c.unwrap_or.ensures ∙ ap (λ (o : Option ℤ). unwrap_or o (pos 0)) c.place.ensures.value in
    product_fits (matrix_of grid) (matrix_near grid) c.args.z.now c.requires c.args.i c.loop-j.j _ _ c.loop-j-test.true c.loop-j.invariant ex

pub overflow_add-sum : goal.overflow_add-sum
overflow_add-sum g c =
    let grid = g.T.Table.meant c.args.table.now in
    let ex = c.unwrap_or.ensures ∙ ap (λ (o : Option ℤ). unwrap_or o (pos 0)) c.place.ensures.value in
    sum_fits (matrix_of grid) (matrix_near grid) c.args.z.now c.requires c.args.i c.loop-j.j _ _ c.loop-j-test.true c.loop-j.invariant ex

pub loop-j-preserved : goal.loop-j-preserved
loop-j-preserved g c =
    let grid = g.T.Table.meant c.args.table.now in
    let ex = c.unwrap_or.ensures ∙ ap (λ (o : Option ℤ). unwrap_or o (pos 0)) c.place.ensures.value in
    row_more (matrix_of grid) (matrix_near grid) c.args.z.now c.requires c.args.i c.loop-j.j _ _ c.loop-j-test.true c.loop-j.invariant ex
