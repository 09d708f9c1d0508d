use Rattle.std.proofs.Common.{◌≡◌, ℕ, ◌<◌, ◌≤◌, true, nat_abs, is_some}
use Rattle.duality.specs.Lists.{places}
use Rattle.table.specs.Grid.{place_of}
use Rattle.table.proofs.Along.{sum_to}
use Rattle.table.proofs.interface.Table.product.Given as goal

-- of the places passed: their sum, that none was blank, and that the list kept to its limit
abbrev pub invariant-loop-j : goal.invariant-loop-j
invariant-loop-j g l =
    (l.sum ≡ sum_to (g.Self.Table.meant l.self) l.i l.xs l.j)
    × ((k : ℕ) → k < l.j → is_some (place_of (g.Self.Table.meant l.self) l.i k) ≡ true)
    × ((k : ℕ) → k < l.j → nat_abs (places l.xs k) ≤ 1073741824)
