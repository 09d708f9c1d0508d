use Rattle.table.proofs.Swaps.{column_exactly}
use Rattle.table.proofs.layers.column_product.Goals as goal

pub returns : goal.returns
returns g c =
    record {
      value = c.product.ensures.value;
      bound = c.product.ensures.bound;
      exactly = column_exactly (g.T.Table.meant c.args.table.now) c.args.j c.args.xs.now c.product.result c.product.ensures.value;
    }
