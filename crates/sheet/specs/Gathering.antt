-- The numbers of a job, gathered section by section.
use Rattle.std.specs.Prelude.{◌≡◌}
use Rattle.block.specs.declared.kind.Kind.TheVariants.{Curvature, Rows, Costs, Bounds, Limits, Slip}
use Rattle.table.specs.Grid.{Grid}
use Rattle.card.specs.declared.contents.Numbers.{Numbers as Lent}
use Rattle.opening.specs.Opening.{Numbers}
use Rattle.sheet.specs.declared.job_numbers.JobNumbers.{JobNumbers}
use Rattle.sheet.specs.Numbers.{job_numbers}

-- what is held are the job's numbers
pub record Gathers (y : JobNumbers) (g a : Grid) (x : Numbers) : Type 0 where
  pub curvature : y.curvature.items ≡ job_numbers g a x Curvature
  pub rows : y.rows.items ≡ job_numbers g a x Rows
  pub costs : y.costs.items ≡ job_numbers g a x Costs
  pub bounds : y.bounds.items ≡ job_numbers g a x Bounds
  pub limits : y.limits.items ≡ job_numbers g a x Limits
  pub slip : y.slip.items ≡ job_numbers g a x Slip

-- what is lent is what is held
pub record Lends (lent : Lent) (y : JobNumbers) : Type 0 where
  pub curvature : lent.curvature.now ≡ y.curvature.items
  pub rows : lent.rows.now ≡ y.rows.items
  pub costs : lent.costs.now ≡ y.costs.items
  pub bounds : lent.bounds.now ≡ y.bounds.items
  pub limits : lent.limits.now ≡ y.limits.items
  pub slip : lent.slip.now ≡ y.slip.items
