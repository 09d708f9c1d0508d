-- How far a point lies outside the rows, and which row it breaks.
use Rattle.std.specs.Prelude.{◌≡◌, ℕ, ◌<◌, ℤ, pos, Result}
use Rattle.duality.specs.Sums.{Vector, ∑}
use Rattle.duality.specs.Problem.{Problem, row_at}
use Rattle.duality.specs.Tests.{first_not}
use Rattle.terms.specs.Ticks.{excess}
use Rattle.terms.specs.Findings.{RowKept, keeps_row, finding, Finds}
use Rattle.terms.specs.declared.unmet.Unmet.{Unmet}

-- the ticks outside all rows, summed
unfoldable pub outside : Problem → Vector → ℤ
outside P z = ∑ P.rows (λ i. excess (P.lo i) (P.hi i) (row_at P z i))

abbrev pub RowsMet : Problem → Vector → Type 0
RowsMet P z = (i : ℕ) → i < P.rows → RowKept P z i

-- Law: a point lies no tick outside exactly if it meets every row.
abbrev pub MetInside : Problem → Vector → ℤ → Type 0
MetInside P z o = (o ≡ pos 0 → RowsMet P z) × (RowsMet P z → o ≡ pos 0)

-- the first row that z breaks
abbrev pub judged : Problem → Vector → Result (Unit {0}) Unmet
judged P z = finding (first_not (keeps_row P z) P.rows)

-- Law: an answer that names a row names the first one that is not met.
abbrev pub Judges : Problem → Vector → Result (Unit {0}) Unmet → Type 0
Judges P z r = Finds (RowKept P z) P.rows r
