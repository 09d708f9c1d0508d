use Rattle.std.proofs.Common.{length, ap, ◌∙◌, arith, w64, SFits, rules}
use Rattle.std.proofs.lemmas.Int.{to_z-of_z}
use Rattle.duality.specs.Lists.{places}
use Rattle.duality.specs.Sums.{row}
use Rattle.duality.proofs.Tests.{within_at}
use Rattle.table.specs.Grid.{matrix_of}
use Rattle.table.specs.Layers.{flipped}
use Rattle.evaluate.proofs.Summing.{column_is}
use Rattle.evaluate.proofs.multipliers.column_of.Goals as goal

pub sum_of_places-requires : goal.sum_of_places-requires
sum_of_places-requires g c = record { few = c.requires.few; near = λ k. omega (arith, within_at 16777216 c.args.y.now k c.requires.near) }

pub returns : goal.returns
returns g c =
    let y = c.args.y.now in
    let f : SFits w64 c.sum_of_places.result = search rules in
    to_z-of_z w64 _ f
    ∙ c.sum_of_places.ensures
    ∙ ap (λ r. row (length y) (matrix_of (flipped (g.T.Table.meant r.now))) (places y) c.args.j) c.over.ensures.holds
    ∙ column_is (g.T.Table.meant c.args.table.now) y (length y) c.args.j
