-- What is told of every card: its sheet, or the line of its refusal.
use Rattle.std.specs.Prelude.{ℕ, true, false, cond, List, length, Ok, Err, Result, nat_le}
use Rattle.opening.specs.declared.refusal.Refusal.{Refusal}
use Rattle.elimination.specs.Lines.{none}
use Rattle.print.specs.Printing.{refused_text}
use Rattle.solver.specs.Outcomes.{written, solve_answer, solve_after}
use Rattle.solver.specs.declared.solved.Solved.{Solved}
use Rattle.solver.specs.declared.told.Told.{Told}

-- a sheet, or a refusal's text

abbrev pub told : Result Solved Refusal → Told
told (Ok s) = record { bytes = s.bytes; smallest = s.smallest; solved = true }
told (Err e) = record { bytes = length (refused_text e); smallest = none; solved = false }

-- where the refusal stands in the list, the other bytes of it stay
abbrev pub told_in : Result Solved Refusal → (out sheet : List ℕ) → List ℕ
told_in (Ok s) out sheet = sheet
told_in (Err e) out sheet = written (refused_text e) out

-- a list of fewer than 320 bytes is too short for every text

abbrev pub tell_answer : List ℕ → List ℕ → Told
tell_answer card out = cond (nat_le 320 (length out)) (told (solve_answer card (length out))) (record { bytes = 0; smallest = none; solved = false })

abbrev pub tell_after : List ℕ → List ℕ → List ℕ
tell_after card out = cond (nat_le 320 (length out)) (told_in (solve_answer card (length out)) out (solve_after card out)) out
