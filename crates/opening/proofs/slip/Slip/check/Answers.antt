use Rattle.std.proofs.Common.{Option, sym, ap}
use Rattle.duality.specs.Convex.{remainder}
use Rattle.duality.specs.Lists.{by_rows}
use Rattle.table.specs.Grid.{matrix_of}
use Rattle.opening.specs.declared.refusal.Refusal.{Refusal}
use Rattle.opening.specs.declared.refusal.Refusal.TheVariants.{Slip}
use Rattle.opening.specs.Firsts.{unless}
use Rattle.opening.specs.Opening.{dominates}
use Rattle.opening.proofs.Firsts.{stops_at}
use Rattle.opening.proofs.slip.Slip.check.Goals as goal

pub returns-then-not-dominates : goal.returns-then-not-dominates
returns-then-not-dominates g c =
    let s = c.args.self.now in
    let R = remainder s.ropes (matrix_of (g.G.Table.meant s.g.now)) (by_rows s.ropes s.numbers.now) in
    ap (λ (o : Option Refusal). unless o (tt {0})) (sym (stops_at Slip (dominates s.ropes R) c.loop-row.row s.ropes c.loop-row.invariant (sym c.if-not-dominates.ensures) c.loop-row-test.true))
