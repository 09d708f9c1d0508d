use Rattle.std.proofs.Common.{refl}
use Rattle.table.proofs.Additions.{added_up, summed_order}
use Rattle.table.proofs.layers.Sum.of.Goals as goal

pub returns : goal.returns
returns g c =
    let left = g.T.Table.meant c.args.left in
    let right = g.U.Table.meant c.args.right in
    record { holds = (refl, refl); added = added_up left right; order = summed_order left right }
