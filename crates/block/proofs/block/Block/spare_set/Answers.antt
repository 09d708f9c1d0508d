use Rattle.std.proofs.Common.{◌+◌, ◌*◌, take, Some, None, refl, ◌∙◌}
use Rattle.block.proofs.FirstSet.{rest_of, spare_found}
use Rattle.block.proofs.block.Block.spare_set.Goals as goal

pub returns-in_err-k : goal.returns-in_err-k
returns-in_err-k c = c.from_residual-in_err-k.ensures ∙ spare_found c.args.self.now.bytes.now c.in_ok-get.field-0.now c.args.used None c.if-self-ne0.false (rest_of c.args.self.now.bytes.now (take 510 c.args.self.now.bytes.now) c.in_ok-get.field-0.now (4 + c.args.used * 4) refl c.in_ok-get.ensures.lookup.0.2) c.in_err-k.ensures

pub returns : goal.returns
returns c = spare_found c.args.self.now.bytes.now c.in_ok-get.field-0.now c.args.used (Some c.in_ok-k.k) c.if-self-ne0.false (rest_of c.args.self.now.bytes.now (take 510 c.args.self.now.bytes.now) c.in_ok-get.field-0.now (4 + c.args.used * 4) refl c.in_ok-get.ensures.lookup.0.2) c.in_ok-k.ensures
