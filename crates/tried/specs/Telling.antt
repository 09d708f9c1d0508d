-- A job that is opened, calls that are made on it, and all answers as they are told: by words and numbers.
use Rattle.std.specs.Prelude.{ℕ, Bool, List, [], ◌∷◌, map, ℤ, Some, None, Ok, Err, Option, Result}
use Rattle.block.specs.declared.fault.Notice.{Notice}
use Rattle.block.specs.Blocks.{check_of}
use Rattle.card.specs.Cards.{head_of}
use Rattle.table.specs.Grid.{Grid}
use Rattle.opening.specs.declared.refusal.Refusal.{Refusal}
use Rattle.opening.specs.Refusals.{notice_of}
use Rattle.opening.specs.Opening.{Numbers, open_fault}
use Rattle.calls.specs.declared.answers.Dropped.{Dropped}
use Rattle.calls.specs.declared.answers.Found.{Found}
use Rattle.calls.specs.declared.answers.Report.{Report}
use Rattle.calls.specs.declared.answers.Shown.{Shown}
use Rattle.calls.specs.declared.answers.Verdict.{Verdict}
use Rattle.calls.specs.declared.answers.Verdict.TheVariants.{Taken, Kept}
use Rattle.calls.specs.Opened.{opened}
use Rattle.calls.specs.Histories.{Call}
use Rattle.calls.specs.Runs.{Reply, judged, changed, solved, showed, replies}

-- what a plan is opened from
pub record Job : Type 0 where
  pub g : Grid
  pub a : Grid
  pub numbers : Numbers

pub data Told : Type 0 where
  -- the job is opened
  opens : Told
  -- a call, or the job, is refused: by its number, its layer and two places
  refused : Notice → Told
  -- an offer is held from now on, or what was held is no worse
  taken : Told
  kept : Told
  -- an amendment stands, and has dropped the point, the proof
  drops : Bool → Bool → Told
  -- a floor, what is known of points, and the list that was handed over, as it is then
  shows : ℤ → Found → List ℤ → Told
  -- a solve has ended: its counts are not told
  ends : Told
  -- a check sum
  sum : ℕ → Told

abbrev pub told_verdict : Result Verdict Refusal → Told
told_verdict (Ok Taken) = taken
told_verdict (Ok Kept) = kept
told_verdict (Err e) = refused (notice_of e)

abbrev pub told_change : Result Dropped Refusal → Told
told_change (Ok d) = drops d.point d.proof
told_change (Err e) = refused (notice_of e)

abbrev pub told_report : Result Report Refusal → Told
told_report (Ok r) = ends
told_report (Err e) = refused (notice_of e)

abbrev pub told_shown : Result Shown Refusal → List ℤ → Told
told_shown (Ok r) z = shows r.floor r.found z
told_shown (Err e) z = refused (notice_of e)

abbrev pub told : Reply → Told
told (judged r) = told_verdict r
told (changed r) = told_change r
told (solved r) = told_report r
told (showed r z) = told_shown r z

-- a job with a fault is refused, and nothing can be asked of it
abbrev pub opening : Option Refusal → List Told → List Told
opening None rest = opens ∷ rest
opening (Some e) rest = refused (notice_of e) ∷ []

pub data Question : Type 0 where
  -- a job is opened and calls are made on it, the first call first
  runs : Job → List Call → Question
  -- the check sum of the head block of a card of so many ropes and rows
  head : ℕ → ℕ → Question

-- all that is told, by the definitions
abbrev pub answers : Question → List Told
answers (runs j calls) =
    opening (open_fault j.g j.a j.numbers) (map told (replies (opened j.g j.a j.numbers) calls))
answers (head n m) = sum (check_of (head_of n m)) ∷ []
