use Rattle.std.proofs.Common.{◌≡◌, ◌-◌, ◌^◌, ◌<◌, ◌≤◌, List, length, take, drop, ℤ, ◌+ℤ◌, nat_abs, Some, None, ap, ◌∙◌, arith, w64, SFits, to_z, of_z, rules}
use Rattle.std.proofs.lemmas.Int.{to_z-of_z}
use Rattle.std.proofs.lemmas.List.{take_all, length-drop}
use Rattle.table.proofs.Integers.{abs_add, fits_below}
use Rattle.table.specs.Grid.{cut, product_of}
use Rattle.table.proofs.Products.{product_lawful}
use Rattle.card.specs.Grids.{grid_of, run_grid}
use Rattle.card.proofs.RowRuns.{row_first, row_second, row_joined}
use Rattle.card.proofs.tables.CardTableTable.product.Goals as goal

pub returns-in_err-first : goal.returns-in_err-first
returns-in_err-first c =
    let t = c.args.self.now in
    let inside : c.args.i < cut t.rows = omega (arith, c.if-i-height.false, c.height.ensures.value) in
    let none : None ≡ product_of (grid_of t) c.args.i c.args.xs.now
    = row_first t.bytes.now t.first t.rows t.columns c.args.i c.width-columns.result c.min-here.result inside c.width-columns.ensures.value c.width-columns.ensures.bound c.min-here.ensures
    c.args.xs.now c.if-xs-columns.false c.run.result.bytes.now c.run.result.at c.run.result.count c.product.result c.product.ensures.value
    c.run.ensures.value.0 c.run.ensures.value.1 c.run.ensures.value.2 c.in_err-first.was in
    let p = product_lawful (grid_of t) c.args.i c.args.xs.now None none in
    let e = c.from_residual.ensures in
    rw e (record { value = none; bound = p.0; exactly = p.1 })

pub returns-in_err-second : goal.returns-in_err-second
returns-in_err-second c =
    let t = c.args.self.now in
    let inside : c.args.i < cut t.rows = omega (arith, c.if-i-height.false, c.height.ensures.value) in
    let rest : take (length c.args.xs.now - c.min-here.result) (drop c.min-here.result c.args.xs.now) ≡ drop c.min-here.result c.args.xs.now
    = take_all (length c.args.xs.now - c.min-here.result) (drop c.min-here.result c.args.xs.now) (omega (arith, length-drop c.min-here.result c.args.xs.now)) in
    let none : None ≡ product_of (grid_of t) c.args.i c.args.xs.now
    = row_second t.bytes.now t.first t.rows t.columns c.args.i c.width-columns.result c.min-here.result inside c.width-columns.ensures.value c.width-columns.ensures.bound c.min-here.ensures
    c.args.xs.now c.if-xs-columns.false c.run.result.bytes.now c.run.result.at c.run.result.count c.product.result c.product.ensures.value
    c.run.ensures.value.0 c.run.ensures.value.1 c.run.ensures.value.2
    c.run-2.result.bytes.now c.run-2.result.at c.run-2.result.count c.product-2.result (c.product-2.ensures.value ∙ ap (λ (ys : List ℤ). product_of (run_grid c.run-2.result.bytes.now c.run-2.result.at c.run-2.result.count) 0 ys) rest)
    c.run-2.ensures.value.0 c.run-2.ensures.value.1 c.run-2.ensures.value.2 c.in_err-second.was in
    let p = product_lawful (grid_of t) c.args.i c.args.xs.now None none in
    let e = c.from_residual-in_err-second.ensures in
    rw e (record { value = none; bound = p.0; exactly = p.1 })

pub returns : goal.returns
returns c =
    let t = c.args.self.now in
    let inside : c.args.i < cut t.rows = omega (arith, c.if-i-height.false, c.height.ensures.value) in
    let rest : take (length c.args.xs.now - c.min-here.result) (drop c.min-here.result c.args.xs.now) ≡ drop c.min-here.result c.args.xs.now
    = take_all (length c.args.xs.now - c.min-here.result) (drop c.min-here.result c.args.xs.now) (omega (arith, length-drop c.min-here.result c.args.xs.now)) in
    let y : ℤ = c.in_ok-first.first in
    let z : ℤ = c.in_ok-second.second in
    let fy : SFits w64 y = search rules in
    let fz : SFits w64 z = search rules in
    let near-y : nat_abs y ≤ 2 ^ 56 = c.in_ok-first.ensures.bound in
    let near-z : nat_abs z ≤ 2 ^ 56 = c.in_ok-second.ensures.bound in
    let whole : Some (y +ℤ z) ≡ product_of (grid_of t) c.args.i c.args.xs.now
    = row_joined t.bytes.now t.first t.rows t.columns c.args.i c.width-columns.result c.min-here.result inside c.width-columns.ensures.value c.width-columns.ensures.bound c.min-here.ensures
    c.args.xs.now c.if-xs-columns.false c.run.result.bytes.now c.run.result.at c.run.result.count c.product.result c.product.ensures.value
    c.run.ensures.value.0 c.run.ensures.value.1 c.run.ensures.value.2
    c.run-2.result.bytes.now c.run-2.result.at c.run-2.result.count c.product-2.result (c.product-2.ensures.value ∙ ap (λ (ys : List ℤ). product_of (run_grid c.run-2.result.bytes.now c.run-2.result.at c.run-2.result.count) 0 ys) rest)
    c.run-2.ensures.value.0 c.run-2.ensures.value.1 c.run-2.ensures.value.2 y z c.in_ok-first.was c.in_ok-second.was in
    let held : to_z w64 (of_z w64 (to_z w64 (of_z w64 y) +ℤ to_z w64 (of_z w64 z))) ≡ y +ℤ z
    = ap (λ (v : ℤ). to_z w64 (of_z w64 (v +ℤ to_z w64 (of_z w64 z)))) (to_z-of_z w64 y fy)
    ∙ (ap (λ (v : ℤ). to_z w64 (of_z w64 (y +ℤ v))) (to_z-of_z w64 z fz) ∙ to_z-of_z w64 (y +ℤ z) (fits_below (y +ℤ z) (omega (arith, near-y, near-z, abs_add y z)))) in
    let e : Some (to_z w64 (of_z w64 (to_z w64 (of_z w64 y) +ℤ to_z w64 (of_z w64 z)))) ≡ product_of (grid_of t) c.args.i c.args.xs.now = ap (λ (v : ℤ). Some v) held ∙ whole in
    let p = product_lawful (grid_of t) c.args.i c.args.xs.now _ e in
    record { value = e; bound = p.0; exactly = p.1 }
