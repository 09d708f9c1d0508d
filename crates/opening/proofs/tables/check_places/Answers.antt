use Rattle.std.proofs.Common.{◌≡◌, ◌<◌, false, refl, arith}
use Rattle.std.proofs.lemmas.Grind.{common_steps}
use Rattle.table.specs.Grid.{height_of, width_of, place_of}
use Rattle.opening.specs.declared.refusal.Refusal.TheVariants.{Place}
use Rattle.opening.specs.Opening.{is_number, line_fault}
use Rattle.opening.proofs.Firsts.{refused_at}
use Rattle.opening.proofs.tables.check_places.Goals as goal

pub returns-then-not-is_some_and : goal.returns-then-not-is_some_and
returns-then-not-is_some_and g c =
    let t = g.T.Table.meant c.args.t.now in
    let no : is_number c.args.limit (place_of t c.loop-row.row c.loop-column.column) ≡ false = grind (arith, common_steps) in
    let high : c.loop-row.row < height_of t = omega arith in
    let wide : c.loop-column.column < width_of t = omega arith in
    refused_at tt Place (line_fault c.args.limit t) (λ i j. is_number c.args.limit (place_of t i j)) (height_of t) (width_of t) (λ i. refl) c.loop-row.row c.loop-column.column c.loop-row.invariant high c.loop-column.invariant no wide
