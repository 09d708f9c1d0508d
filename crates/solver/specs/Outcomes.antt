-- What becomes of a card whose job is solved, and of the list for its sheet.
use Rattle.std.specs.Prelude.{ℕ, List, ◌++◌, length, drop, cond, Ok, Err, Result, nat_le}
use Rattle.opening.specs.declared.refusal.Refusal.{Refusal}
use Rattle.opening.specs.declared.refusal.Refusal.TheVariants.{OfferLength}
use Rattle.calls.specs.States.{State}
use Rattle.calls.specs.Histories.{after, solve}
use Rattle.calls.specs.Solving.{report}
use Rattle.sheet.specs.Loading.{load_answer}
use Rattle.print.specs.Printing.{plan_text}
use Rattle.solver.specs.declared.solved.Solved.{Solved}

-- the sheet after a solve of 1,000 steps and 100,000 moves from this state
abbrev pub solved_text : State → List ℕ
solved_text s = plan_text (report s 1000 100000) (after s (solve 1000 100000))

-- a text, and then the bytes that stood past it
abbrev pub written : List ℕ → List ℕ → List ℕ
written text out = text ++ drop (length text) out

-- how many bytes the sheet has, and the smallest pivot behind it
abbrev pub solved_from : State → Solved
solved_from s = record { bytes = length (solved_text s); smallest = (report s 1000 100000).smallest }

-- what a loaded card, or one that is refused, comes to where the list has so many bytes: every text wants 320

abbrev pub sheet_answer : Result State Refusal → ℕ → Result Solved Refusal
sheet_answer (Ok s) room = cond (nat_le 320 room) (Ok (solved_from s)) (Err (OfferLength 320))
sheet_answer (Err e) room = Err e

-- and the list then: a refusal leaves it as it stood
abbrev pub sheet_after : Result State Refusal → List ℕ → List ℕ
sheet_after (Ok s) out = cond (nat_le 320 (length out)) (written (solved_text s) out) out
sheet_after (Err e) out = out

-- the same of a card

abbrev pub solve_answer : List ℕ → ℕ → Result Solved Refusal
solve_answer card room = sheet_answer (load_answer card) room

abbrev pub solve_after : List ℕ → List ℕ → List ℕ
solve_after card out = sheet_after (load_answer card) out
