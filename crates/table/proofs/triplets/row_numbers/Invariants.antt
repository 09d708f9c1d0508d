use Rattle.std.proofs.Common.{◌≡◌, ℕ, ◌-◌, ◌<◌, length, drop}
use Rattle.duality.specs.Lists.{places}
use Rattle.table.specs.Records.{recorded}
use Rattle.table.proofs.triplets.row_numbers.Given as goal

-- the row says what the records that were passed, the last ones, say
abbrev pub invariant-loop-record : goal.invariant-loop-record
invariant-loop-record l =
    (length l.row ≡ 64) × ((j : ℕ) → j < 64 → places l.row j ≡ recorded (drop (length l.records - length l.yielded) l.records) l.i j)
