use Rattle.std.proofs.Common.{◌≡◌}
use Rattle.terms.specs.Numbers.{ropes_of}
use Rattle.duality.specs.Floor.{furthest}
use Rattle.duality.specs.Lists.{places}
use Rattle.duality.specs.Sums.{∑, row}
use Rattle.table.specs.Grid.{matrix_of}
use Rattle.evaluate.proofs.floors.Fitting.slack_of_rows.Given as goal

abbrev pub invariant-loop-i : goal.invariant-loop-i
invariant-loop-i g l =
    l.total
    ≡ ∑ l.i (λ i. furthest (places l.self.pair.multipliers.now i) (row (ropes_of l.self.terms.now) (matrix_of (g.U.Table.meant l.a)) (places l.self.pair.point.now) i) (places l.self.terms.now.lo.items i) (places l.self.terms.now.hi.items i))
