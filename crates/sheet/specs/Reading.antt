-- The job that a card holds.
use Rattle.std.specs.Prelude.{ℕ, ◌/◌, List, length, take, drop, ℤ, Ok, Err, Result}
use Rattle.block.specs.Checks.{Verdict}
use Rattle.block.specs.declared.kind.Kind.TheVariants.{Costs, Bounds, Limits, Slip}
use Rattle.section.specs.Numbers.{numbers_in}
use Rattle.table.specs.Grid.{Grid}
use Rattle.card.specs.Faults.{n_of, m_of, card_check}
use Rattle.card.specs.Grids.{curvature_grid, rows_grid, grid_of}
use Rattle.opening.specs.Opening.{Numbers}
use Rattle.opening.specs.declared.refusal.Refusal.{Refusal}
use Rattle.opening.specs.declared.refusal.Refusal.TheVariants.{Card}
use Rattle.sheet.specs.declared.card_job.CardJob.{CardJob}
use Rattle.sheet.specs.declared.card_job.CardLists.{CardLists}

-- the lists of a card of n ropes and m rows: bounds and limits have their lower numbers first
abbrev pub lists_in : List ℕ → ℕ → ℕ → Numbers
lists_in card n m =
    record {
      c = numbers_in card n m Costs;
      l = take n (numbers_in card n m Bounds);
      u = drop n (numbers_in card n m Bounds);
      lo = take m (numbers_in card n m Limits);
      hi = drop m (numbers_in card n m Limits);
      slip = numbers_in card n m Slip;
    }

abbrev pub lists_on : List ℕ → Numbers
lists_on card = lists_in card (n_of card) (m_of card)

-- two tables and six lists
pub record Job : Type 0 where
  pub g : Grid
  pub a : Grid
  pub x : Numbers

abbrev pub job_on : List ℕ → Job
job_on card = record { g = curvature_grid card; a = rows_grid card; x = lists_on card }

-- the first half of a list, and the second
abbrev pub lower : List ℤ → List ℤ
lower xs = take (length xs / 2) xs

abbrev pub upper : List ℤ → List ℤ
upper xs = drop (length xs / 2) xs

-- what a job that was read stands for
abbrev pub lists_of : CardLists → Numbers
lists_of x =
    record {
      c = x.costs.items;
      l = lower x.bounds.items;
      u = upper x.bounds.items;
      lo = lower x.limits.items;
      hi = upper x.limits.items;
      slip = x.slip.items;
    }

abbrev pub job_of : CardJob → Job
job_of job = record { g = grid_of job.g; a = grid_of job.a; x = lists_of job.lists }

abbrev pub seen : Result CardJob Refusal → Result Job Refusal
seen (Ok job) = Ok (job_of job)
seen (Err refusal) = Err refusal

abbrev pub passed_or : {X : Type 0} → Verdict → Result X Refusal → Result X Refusal
passed_or (Ok u) r = r
passed_or (Err fault) r = Err (Card fault)

-- the card's first fault, or else its job
abbrev pub read_answer : List ℕ → Result Job Refusal
read_answer card = passed_or (card_check card) (Ok (job_on card))
