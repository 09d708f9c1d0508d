use Rattle.std.proofs.Common.{◌≡◌, ◌*◌, ◌≤◌, length, drop, ◌*ℤ◌}
use Rattle.std.specs.Slice.Iter.{chunks_exact_rest, chunks_exact_size}
use Rattle.duality.specs.Lists.{by_rows}
use Rattle.duality.specs.Sums.{∑}
use Rattle.opening.proofs.slip.Slip.gram.Given as goal

-- the products of the rows passed, and what is left of the slip
abbrev pub invariant-loop-row : goal.invariant-loop-row
invariant-loop-row g l =
    let L = by_rows l.self.ropes l.self.numbers.now in
    record {
      sum : l.sum ≡ ∑ (length l.yielded) (λ k. L k l.i *ℤ L k l.j);
      few : length l.yielded ≤ l.self.ropes;
      size : chunks_exact_size l.row-iterator ≡ l.self.ropes;
      rest : chunks_exact_rest l.row-iterator ≡ drop (length l.yielded * l.self.ropes) l.self.numbers.now;
    }
