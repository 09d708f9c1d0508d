use Rattle.std.proofs.Common.{◌≡◌}
use Rattle.std.specs.Slice.Iter.{iter_rest}
use Rattle.std.specs.Iterator.Adapters.{zip_first, zip_second}
use Rattle.elimination.specs.Lines.{rest}
use Rattle.elimination.proofs.unknowns.remainder.Given as goal

-- what is left of the two slices gives the answer
abbrev pub invariant-loop-a : goal.invariant-loop-a
invariant-loop-a l = rest l.left (iter_rest (zip_first l.a-iterator)) (iter_rest (zip_second l.a-iterator)) ≡ rest l.right l.coefficients l.unknowns
