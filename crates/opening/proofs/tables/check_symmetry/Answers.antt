use Rattle.std.proofs.Common.{◌≡◌, ◌<◌, false, refl, arith}
use Rattle.std.proofs.lemmas.Grind.{common_steps}
use Rattle.table.specs.Grid.{height_of, width_of, matrix_of}
use Rattle.opening.specs.declared.refusal.Refusal.TheVariants.{Asymmetric}
use Rattle.opening.specs.Opening.{same, mirror_fault}
use Rattle.opening.proofs.Firsts.{refused_at}
use Rattle.opening.proofs.tables.check_symmetry.Goals as goal

pub returns-then-number_at : goal.returns-then-number_at
returns-then-number_at g c =
    let t = g.G.Table.meant c.args.g.now in
    let no : same (matrix_of t c.loop-row.row c.loop-column.column) (matrix_of t c.loop-column.column c.loop-row.row) ≡ false = grind (arith, common_steps) in
    let high : c.loop-row.row < height_of t = omega arith in
    let wide : c.loop-column.column < width_of t = omega arith in
    refused_at tt Asymmetric (mirror_fault t) (λ i j. same (matrix_of t i j) (matrix_of t j i)) (height_of t) (width_of t) (λ i. refl) c.loop-row.row c.loop-column.column c.loop-row.invariant high c.loop-column.invariant no wide
