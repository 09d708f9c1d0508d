use Rattle.evaluate.proofs.Widening.{product_is}
use Rattle.evaluate.proofs.wide.wide_product.Goals as goal

pub returns : goal.returns
returns c = product_is c.args.x c.args.y c.ranges.x c.ranges.y
