use Rattle.std.proofs.Common.{arith}
use Rattle.card.proofs.contents.Contents.new.Goals as goal

pub invariant_of-result : goal.invariant_of-result
invariant_of-result c =
    let full = c.loop-kind.invariant in
    record {
      square = full 0 (omega arith);
      lined = full 1 (omega arith);
      priced = full 2 (omega arith);
      bounded = full 3 (omega arith);
      limited = full 4 (omega arith);
      slipped = full 5 (omega arith);
    }
