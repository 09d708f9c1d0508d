use Rattle.std.proofs.Common.{refl}
use Rattle.table.proofs.Alikes.{alike_self}
use Rattle.table.proofs.Swaps.{swapped}
use Rattle.table.proofs.layers.Flip.over.Goals as goal

pub returns : goal.returns
returns g c = let grid = g.T.Table.meant c.args.below in record { holds = refl; swapped = swapped grid; twice = alike_self grid }
