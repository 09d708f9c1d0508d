use Rattle.std.proofs.Common.{arith, rules}
use Rattle.block.specs.Kinds.{letter_of}
use Rattle.block.proofs.RoundTrip.{exact_at, inexact_at}
use Rattle.block.proofs.Saying.{rightly}
use Rattle.block.proofs.block.Block.check.Goals as goal

pub returns-in_err-check_sum-clause-exact : goal.returns-in_err-check_sum-clause-exact
returns-in_err-check_sum-clause-exact c =
    inexact_at c.args.self.now.bytes.now c.args.self.now.long (letter_of c.args.kind) c.args.number c.args.used (omega arith) c.from_residual.result c.in_err-check_sum.field-0.0 (search rules) (search rules)

pub returns-in_err-check_name-clause-exact : goal.returns-in_err-check_name-clause-exact
returns-in_err-check_name-clause-exact c =
    inexact_at c.args.self.now.bytes.now c.args.self.now.long (letter_of c.args.kind) c.args.number c.args.used (omega arith) c.from_residual-in_err-check_name.result c.in_err-check_name.field-0.0 (search rules) (search rules)

pub returns-clause-exact : goal.returns-clause-exact
returns-clause-exact c = exact_at c.args.self.now.bytes.now c.args.self.now.long (letter_of c.args.kind) c.args.number c.args.used (omega arith) c.args.self.now.small c.check_spare.result (search rules)

pub returns-in_err-check_sum-clause-rightly : goal.returns-in_err-check_sum-clause-rightly
returns-in_err-check_sum-clause-rightly c = rightly c.args.self.now.bytes.now c.args.number c.args.used c.args.self.now.long (letter_of c.args.kind) c.from_residual.result (search rules)

pub returns-in_err-check_name-clause-rightly : goal.returns-in_err-check_name-clause-rightly
returns-in_err-check_name-clause-rightly c = rightly c.args.self.now.bytes.now c.args.number c.args.used c.args.self.now.long (letter_of c.args.kind) c.from_residual-in_err-check_name.result (search rules)

pub returns-clause-rightly : goal.returns-clause-rightly
returns-clause-rightly c = rightly c.args.self.now.bytes.now c.args.number c.args.used c.args.self.now.long (letter_of c.args.kind) c.check_spare.result (search rules)
