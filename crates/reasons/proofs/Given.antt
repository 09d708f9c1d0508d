-- Answers that are always given.
use Rattle.std.proofs.Common.{pos, None}
use Rattle.table.specs.Grid.{Grid}
pub use Rattle.job.proofs.Given.{given}

-- a table where a contract asks for one that does not matter
pub no_grid : Grid
no_grid = record { rows = pos 0; columns = pos 0; cell = λ i j. None }
