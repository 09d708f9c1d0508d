-- The sheet of a card is honest about the problem that the card states.
use Rattle.std.proofs.Common.{◌≡◌, ℕ, Bool, true, false, cond, leb, List, [], ◌∷◌, length, take, drop, replicate, pos, IfOk, Some, None, Ok, Err, Option, Result, sym, refl, ap, ◌∙◌, subst, arith}
use lib.Seq.{take-append_seam}
use Rattle.card.specs.Faults.{card_check}
use Rattle.card.specs.Grids.{curvature_grid, rows_grid}
use Rattle.block.specs.Checks.{Verdict}
use Rattle.opening.specs.Opening.{open_fault}
use Rattle.opening.specs.Firsts.{unless}
use Rattle.opening.specs.declared.refusal.Refusal.{Refusal}
use Rattle.opening.specs.declared.refusal.Refusal.TheVariants.{OfferLength}
use Rattle.calls.specs.States.{State}
use Rattle.calls.specs.Steps.{shown}
use Rattle.calls.specs.Histories.{after, solve}
use Rattle.calls.specs.Honesty.{ShowLaw}
use Rattle.calls.specs.Solving.{report, LawfulSolve}
use Rattle.calls.proofs.Showing.{show_law}
use Rattle.print.specs.Printing.{point_of}
use Rattle.print.proofs.Points.{shows_zeros}
use Rattle.sheet.specs.Reading.{passed_or, lists_on}
use Rattle.sheet.specs.Loading.{load_answer}
use Rattle.solver.specs.declared.solved.Solved.{Solved}
use Rattle.solver.specs.Outcomes.{solved_text, solved_from, written, sheet_answer, sheet_after, solve_answer, solve_after}
use Rattle.solver.specs.Honest.{plan_on, HonestSheet}

-- what is printed of a plan is what it shows
prints_shown : (t : State) → ShowLaw t (Ok (shown t)) (point_of t)
prints_shown t = show_law t (replicate t.numbers.ropes (pos 0)) (Ok (shown t)) (point_of t) (shows_zeros t) refl

-- what is reported of a solve from this state is what it did
abbrev pub Solves : State → Type 0
Solves s = LawfulSolve s 1000 100000 (report s 1000 100000)

-- two states that a card loads as are one
pub same_state : (o : Result State Refusal) (s t : State) → Ok s ≡ o → Ok t ≡ o → s ≡ t
same_state o s t a b = cc

-- a card that loads has no fault, and loads as the plan just opened
module _ (card : List ℕ) (s : State) where
  loaded : (v : Verdict) (o : Option Refusal) → Ok s ≡ passed_or v (unless o (plan_on card)) → (o ≡ None) × (s ≡ plan_on card)
  loaded (Ok u) None e = (refl, cc)
  loaded (Ok u) (Some f) e = let z : ◌≡◌ {A = ℕ} 0 1 = cc in absurd (omega arith)
  loaded (Err f) o e = let z : ◌≡◌ {A = ℕ} 0 1 = cc in absurd (omega arith)

  honest_text : Ok s ≡ load_answer card → Solves s → HonestSheet card (solved_text s)
  honest_text e solves =
      let opens = loaded (card_check card) (open_fault (curvature_grid card) (rows_grid card) (lists_on card)) e in
      let t = after (plan_on card) (solve 1000 100000) in
      let lawful : Solves (plan_on card) = subst Solves opens.1 solves in
      subst (λ (u : State). HonestSheet card (solved_text u)) (sym opens.1)
      (record {
        report = report (plan_on card) 1000 100000;
        shown = shown t;
        point = point_of t;
        lines = refl;
        solved = lawful;
        honest =
            prints_shown t (curvature_grid card) (rows_grid card) (lists_on card) (solve 1000 100000 ∷ [])
            (record { opens = opens.0; stands = refl }) (shown t) refl;
      })

-- of what the call answers and leaves
module _ (card out list : List ℕ) (solves : (s : State) → Ok s ≡ load_answer card → Solves s) where
  with_room : (b : Bool) (s : State) (r : Result Solved Refusal) → Ok s ≡ load_answer card → r ≡ cond b (Ok (solved_from s)) (Err (OfferLength 320))
      → list ≡ cond b (written (solved_text s) out) out → IfOk r (λ v. HonestSheet card (take v.bytes list))
  with_room b s (Err e) l er el = tt
  with_room true s (Ok v) l er el =
      let same : v ≡ solved_from s = cc in
      let text : take v.bytes list ≡ solved_text s =
      ap (λ (k : ℕ). take k list) (ap (λ (x : Solved). x.bytes) same) ∙ ap (take (length (solved_text s))) el ∙ take-append_seam (solved_text s) (drop (length (solved_text s)) out) in
      subst (HonestSheet card) (sym text) (honest_text card s l (solves s l))
  with_room false s (Ok v) l er el = let z : ◌≡◌ {A = ℕ} 0 1 = cc in absurd (omega arith)

  by_loading : (loads : Result State Refusal) (r : Result Solved Refusal) → loads ≡ load_answer card → r ≡ sheet_answer loads (length out)
      → list ≡ sheet_after loads out → IfOk r (λ v. HonestSheet card (take v.bytes list))
  by_loading (Ok s) r l er el = with_room (leb 320 (length out)) s r l er el
  by_loading (Err e) (Err f) l er el = tt
  by_loading (Err e) (Ok v) l er el = let z : ◌≡◌ {A = ℕ} 0 1 = cc in absurd (omega arith)

  pub honest_sheet : (r : Result Solved Refusal) → r ≡ solve_answer card (length out) → list ≡ solve_after card out → IfOk r (λ v. HonestSheet card (take v.bytes list))
  honest_sheet r er el = by_loading (load_answer card) r refl er el
