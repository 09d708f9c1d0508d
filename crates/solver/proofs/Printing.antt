-- A plan that was loaded and solved, and its sheet.
use Rattle.std.proofs.Common.{◌≡◌, ℕ, Bool, true, false, cond, leb, List, length, Ok, Err, Result, refl, ap, ◌∙◌, subst, arith}
use Rattle.opening.specs.declared.refusal.Refusal.{Refusal}
use Rattle.opening.specs.declared.refusal.Refusal.TheVariants.{OfferLength}
use Rattle.calls.specs.declared.answers.Report.{Report}
use Rattle.calls.specs.States.{State}
use Rattle.calls.specs.Histories.{after, solve}
use Rattle.calls.specs.Solving.{report}
use Rattle.lines.specs.declared.unwritten.Unwritten.TheVariants.{Short}
use Rattle.lines.specs.Answers.{list_after}
use Rattle.print.specs.Printing.{plan_text, print_answer, print_after}
use Rattle.solver.specs.declared.solved.Solved.{Solved}
use Rattle.sheet.specs.Loading.{load_answer}
use Rattle.solver.specs.Outcomes.{solved_text, solved_from, written, sheet_answer, sheet_after, solve_answer, solve_after}

-- what a call answers and leaves
pub record Left (loaded : Result State Refusal) (out list : List ℕ) (r : Result Solved Refusal) : Type 0 where
  pub answer : r ≡ sheet_answer loaded (length out)
  pub after : list ≡ sheet_after loaded out

-- a list with room gets the text
roomy : (b : Bool) (s : State) (out list : List ℕ) (n : ℕ) → Ok n ≡ cond b (Ok (length (solved_text s))) (Err (OfferLength 320))
    → list ≡ list_after (cond b (Ok tt) (Err (Short 320))) (solved_text s) out
    → (n ≡ length (solved_text s)) × (Ok (solved_from s) ≡ cond b (Ok (solved_from s)) (Err (OfferLength 320))) × (list ≡ cond b (written (solved_text s) out) out)
roomy true s out list n en el = ((cc), refl, el)
roomy false s out list n en el = let z : ◌≡◌ {A = ℕ} 0 1 = cc in absurd (omega arith)

-- and one without room is left alone
unprinted : (b : Bool) (s : State) (out list : List ℕ) (e : Refusal) → Err e ≡ cond b (Ok (length (solved_text s))) (Err (OfferLength 320))
    → list ≡ list_after (cond b (Ok tt) (Err (Short 320))) (solved_text s) out
    → (Err e ≡ cond b (Ok (solved_from s)) (Err (OfferLength 320))) × (list ≡ cond b (written (solved_text s) out) out)
unprinted true s out list e er el = let z : ◌≡◌ {A = ℕ} 0 1 = cc in absurd (omega arith)
unprinted false s out list e er el = ((cc), el)

-- s is the state that the card loads as, t the one that a solve from it leaves
module _ (loaded : Result State Refusal) (out list : List ℕ) (s t : State) (r : Report) (loads : Ok s ≡ loaded) (er : r ≡ report s 1000 100000) (et : t ≡ after s (solve 1000 100000)) where
  same_text : plan_text r t ≡ solved_text s
  same_text = ap (λ (x : Report). plan_text x t) er ∙ ap (plan_text (report s 1000 100000)) et

  pub printed : (n : ℕ) → Ok n ≡ print_answer (plan_text r t) out → list ≡ print_after (plan_text r t) out → Left loaded out list (Ok (record { bytes = n; smallest = r.smallest }))
  printed n en el =
      let u = roomy (leb 320 (length out)) s out list n (en ∙ ap (λ (x : List ℕ). print_answer x out) same_text) (el ∙ ap (λ (x : List ℕ). print_after x out) same_text) in
      let told : ◌≡◌ {A = Solved} (record { bytes = n; smallest = r.smallest }) (solved_from s) = let a = u.0 in let b = ap (λ (x : Report). x.smallest) er in cc in
      subst (λ (l : Result State Refusal). Left l out list (Ok (record { bytes = n; smallest = r.smallest }))) loads
      (record { answer = ap (λ (x : Solved). Ok x) told ∙ u.1; after = u.2 })

  pub refused : (e : Refusal) → Err e ≡ print_answer (plan_text r t) out → list ≡ print_after (plan_text r t) out → Left loaded out list (Err e)
  refused e en el =
      let u = unprinted (leb 320 (length out)) s out list e (en ∙ ap (λ (x : List ℕ). print_answer x out) same_text) (el ∙ ap (λ (x : List ℕ). print_after x out) same_text) in
      subst (λ (l : Result State Refusal). Left l out list (Err e)) loads (record { answer = u.0; after = u.1 })

-- a refusal leaves the list as it stood

stays : (loaded : Result State Refusal) (out : List ℕ) (e : Refusal) → Err e ≡ sheet_answer loaded (length out) → sheet_after loaded out ≡ out
stays (Err f) out e h = refl
stays (Ok s) out e h = go (leb 320 (length out)) h
  where
    go : (b : Bool) → Err e ≡ cond b (Ok (solved_from s)) (Err (OfferLength 320)) → cond b (written (solved_text s) out) out ≡ out
    go true k = let z : ◌≡◌ {A = ℕ} 0 1 = cc in absurd (omega arith)
    go false k = refl

pub refusal_stays : (card out : List ℕ) (e : Refusal) → Err e ≡ solve_answer card (length out) → solve_after card out ≡ out
refusal_stays card out e h = stays (load_answer card) out e h
