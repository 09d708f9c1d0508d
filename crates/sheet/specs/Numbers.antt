-- The numbers of a job as the sections of a card hold them, and the lists of a job as a card has them.
use Rattle.std.specs.Prelude.{ℕ, ◌*◌, List, [], ◌∷◌, ◌++◌, ℤ, pos}
use Rattle.table.specs.Grid.{Grid, height_of, matrix_of}
use Rattle.block.specs.declared.kind.Kind.{Kind}
use Rattle.block.specs.declared.kind.Kind.TheVariants.{Head, Curvature, Rows, Costs, Bounds, Limits, Slip}
use Rattle.section.specs.Layout.{blocks_in}
use Rattle.reading.specs.Plain.{listed}
use Rattle.card.specs.Cards.{card_of}
use Rattle.opening.specs.Opening.{Numbers}

-- the numbers of each section; tables stand row by row
abbrev pub job_numbers : Grid → Grid → Numbers → Kind → List ℤ
job_numbers g a x Head = pos (height_of g) ∷ pos (height_of a) ∷ []
job_numbers g a x Curvature = listed (height_of g) (height_of g) (matrix_of g)
job_numbers g a x Rows = listed (height_of a) (height_of g) (matrix_of a)
job_numbers g a x Costs = x.c
job_numbers g a x Bounds = x.l ++ x.u
job_numbers g a x Limits = x.lo ++ x.hi
job_numbers g a x Slip = x.slip

-- the card of a job, and how many bytes it has
abbrev pub card_for : Grid → Grid → Numbers → List ℕ
card_for g a x = card_of (height_of g) (height_of a) (job_numbers g a x)

abbrev pub bytes_for : Grid → Grid → ℕ
bytes_for g a = blocks_in (height_of g) (height_of a) * 512
