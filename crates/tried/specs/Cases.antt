-- The cases that were tried by hand.
use Rattle.std.specs.Prelude.{◌≡◌, ℕ, true, false, List, [], ◌∷◌, ℤ, pos, neg_ℤ, Some}
use Rattle.std.specs.List.{AllByRecursion}
use Rattle.duality.specs.Lists.{by_rows}
use Rattle.table.specs.Grid.{Grid}
use Rattle.opening.specs.Opening.{Numbers}
use Rattle.opening.specs.Refusals.{at_plan}
use Rattle.calls.specs.declared.answers.Amendment.TheVariants.{Row}
use Rattle.calls.specs.declared.answers.Found.TheVariants.{NoneExists, Point, NoPoint}
use Rattle.calls.specs.Offers as offers
use Rattle.calls.specs.Histories.{Call, offer, amend, show}
use Rattle.tried.specs.Telling.{Job, Told, opens, refused, taken, drops, shows, sum, Question, runs, head, answers}

-- a question, and what is told
pub record Case : Type 0 where
  pub question : Question
  pub said : List Told

infix 10 ◌tells◌
abbrev pub ◌tells◌ : Question → List Told → Case
q tells ts = record { question = q; said = ts }

abbrev pub Holds : Case → Type 0
Holds c = answers c.question ≡ c.said

abbrev pub AllHold : List Case → Type 0
AllHold = AllByRecursion Holds

-- numbers, and tables of numbers row by row

abbrev pub minus : ℕ → ℤ
minus n = neg_ℤ (pos n)

abbrev pub two : ℕ → ℕ → List ℤ
two x y = pos x ∷ pos y ∷ []

abbrev pub table_of : ℕ → ℕ → List ℤ → Grid
table_of height width xs = record { rows = pos height; columns = pos width; cell = λ i j. Some (by_rows width xs i j) }

-- two ropes and one row, (1, 1) from 0 to 3; c = (-4, -6), bounds 0 to 10
abbrev pub two_ropes : List ℤ → List ℤ → Job
two_ropes g slip =
    record {
      g = table_of 2 2 g;
      a = table_of 1 2 (two 1 1);
      numbers =
          record { c = minus 4 ∷ minus 6 ∷ []; l = two 0 0; u = two 10 10; lo = pos 0 ∷ []; hi = pos 3 ∷ []; slip = slip };
    }

abbrev pub zeros : List ℤ
zeros = pos 0 ∷ pos 0 ∷ pos 0 ∷ pos 0 ∷ []

-- G = (2, 0; 0, 2)
abbrev pub J : Job
J = two_ropes (pos 2 ∷ pos 0 ∷ pos 0 ∷ pos 2 ∷ []) zeros

-- G = (1, 2; 2, 4), which is flat along (2, -1)
abbrev pub flat : List ℤ → Job
flat slip = two_ropes (pos 1 ∷ pos 2 ∷ pos 2 ∷ pos 4 ∷ []) slip

-- calls on a job of two ropes and one row

abbrev pub point : ℕ → ℕ → Call
point x y = offer (offers.point (two x y))

-- (1, 2) with multiplier -512
abbrev pub one_pair : Call
one_pair = offer (offers.pair (record { point = two 1 2; multipliers = minus 512 ∷ [] }))

abbrev pub proof : ℕ → Call
proof y = offer (offers.proof (pos y ∷ []))

abbrev pub limits : ℕ → ℕ → Call
limits lo hi = amend (Row 0 (pos lo) (pos hi))

-- the list handed over is (7, 7), so that a list that is written into can be told from one that is not
abbrev pub look : Call
look = show (two 7 7)

-- r and g are the residual and the slack of the pair, so the floor is 256·cost - 2·g; a new plan holds the pair of (0, 0) with multiplier 0
unfoldable pub cases : List Case
cases =
    -- r = 256·c = (-1,024, -1,536), g = 10·1,024 + 10·1,536 = 25,600, floor 256·0 - 2·25,600
    (runs J (look ∷ []) tells opens ∷ shows (minus 51200) NoPoint (two 7 7) ∷ [])
    -- cost 2·1 + 2·4 + 2·(-4 - 12) = -22, gap 256·(-22) + 51,200
    ∷ (runs J (point 1 2 ∷ look ∷ []) tells opens ∷ taken ∷ shows (minus 51200) (Point (minus 22) (pos 45568)) (two 1 2) ∷ [])
    -- row 0 makes 2 + 2 = 4, above 3
    ∷ (runs J (point 2 2 ∷ []) tells opens ∷ refused (at_plan 23 0 0) ∷ [])
    -- r = 256·(2·1 - 4, 2·2 - 6) + 512·(1, 1) = (0, 0), and row 0 is at its upper limit: g = 0, floor 256·(-22)
    ∷ (runs J (point 1 2 ∷ one_pair ∷ look ∷ []) tells opens ∷ taken ∷ taken ∷ shows (minus 5632) (Point (minus 22) (pos 0)) (two 1 2) ∷ [])
    -- row 0 makes 1 + 2 = 3, above 2; g = -512·(3 - 2) = -512, floor 256·(-22) + 2·512
    ∷ (runs J (point 1 2 ∷ one_pair ∷ limits 0 2 ∷ look ∷ []) tells opens ∷ taken ∷ taken ∷ drops true false ∷ shows (minus 4608) NoPoint (two 7 7) ∷ [])
    -- the bounds allow 10 + 10 = 20, and the row needs 21; the floor is the first one, for the multiplier of the row is 0
    ∷ (runs J (limits 21 30 ∷ proof 1 ∷ look ∷ []) tells opens ∷ drops false false ∷ taken ∷ shows (minus 51200) NoneExists (two 7 7) ∷ [])
    -- 20 is not below 20
    ∷ (runs J (limits 20 30 ∷ proof 1 ∷ []) tells opens ∷ drops false false ∷ refused (at_plan 24 0 0) ∷ [])
    -- row 0 of R = 1,048,576·G has 1,048,576 on the diagonal, and twice that beside it
    ∷ (runs (flat zeros) [] tells refused (at_plan 15 0 0) ∷ [])
    -- 1,024² = 1,048,576, so LᵀL = 1,048,576·G, and R = 0
    ∷ (runs (flat (pos 1024 ∷ pos 2048 ∷ pos 0 ∷ pos 0 ∷ [])) [] tells opens ∷ [])
    -- byte 0 is the letter H, 72; byte 4 is 2, and byte 8 is 1: 1·72 + 5·2 + 9·1
    ∷ (head 2 1 tells sum 91 ∷ [])
    ∷ []
