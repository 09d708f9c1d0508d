-- A run of calls, slot by slot.
use Rattle.std.proofs.Common.{◌≡◌, ℕ, List, [], ◌∷◌, ◌++◌, map, take, drop, IsErrAnd, Some, None, Ok, Err, Option, Result, sym, refl, ap, ◌∙◌, subst, arith}
use Rattle.calls.specs.States.{State}
use Rattle.table.specs.Grid.{Grid}
use Rattle.opening.specs.declared.refusal.Refusal.{Refusal}
use Rattle.opening.specs.Opening.{Numbers, open_fault}
use Rattle.calls.specs.Opened.{opened}
use Rattle.calls.specs.Steps.{unless, if_allowed}
use Rattle.calls.specs.Histories as calls
use Rattle.calls.specs.Histories.{after}
use Rattle.calls.specs.Runs.{Reply, reply, replies, after_all, RunLaw, LeavesAfter}
use Rattle.calls.specs.Fairness.{FairRunLaw, LeavesFair}
use Rattle.session.specs.declared.asks.Asked.{Asked}
use Rattle.session.specs.declared.asks.Call.{Call}
use Rattle.session.specs.declared.asks.Call.TheVariants.{Point, Floor, Proof, Amend, Solve, Show}
use Rattle.session.specs.Said.{call_of, reply_of, asked_of, told}
use Rattle.session.specs.Answering.{written, answer_to, answered, HonestSession}
use Rattle.calls.proofs.Running.{run_law, leaves_after, fair_run_law, leaves_fair}

-- the first k slots are filled as the run fills them, and the rest of the run leads to its end
pub record Halfway (s : State) (asked : List Asked) (k : ℕ) (now : List Asked) (t : State) : Type 0 where
  pub slots : take k now ++ answered t (drop k now) ≡ answered s asked
  pub left : after_all t (map asked_of (drop k now)) ≡ after_all s (map asked_of asked)

-- the replies are those of the definitions

reply_same : (s : State) (c : Call) → reply_of (written s c) (answer_to s c) ≡ reply s (call_of c)
reply_same s (Point z) = refl
reply_same s (Floor q) = refl
reply_same s (Proof y) = refl
reply_same s (Amend m) = refl
reply_same s (Solve steps moves) = refl
reply_same s (Show out) = refl

pub told_all : (s : State) (asked : List Asked) → told (answered s asked) ≡ replies s (map asked_of asked)
told_all s [] = refl
told_all s (a ∷ rest) =
    let here = reply_same s a.call in
    let later = told_all (after s (asked_of a)) rest in
    cc

pub run_honest : (s : State) (ms : List calls.Call) (rs : List Reply) → rs ≡ replies s ms → RunLaw s ms rs
run_honest s ms rs e = subst (RunLaw s ms) (sym e) (run_law s ms)

pub run_left : (s t : State) (ms : List calls.Call) → t ≡ after_all s ms → LeavesAfter s ms t
run_left s t ms e = subst (LeavesAfter s ms) (sym e) (leaves_after s ms)

pub run_fair : (s t : State) (ms : List calls.Call) → t ≡ after_all s ms → LeavesFair s t
run_fair s t ms e = subst (LeavesFair s) (sym e) (leaves_fair s ms)

pub run_fairly : (s : State) (ms : List calls.Call) (rs : List Reply) → rs ≡ replies s ms → FairRunLaw s ms rs
run_fairly s ms rs e = subst (FairRunLaw s ms) (sym e) (fair_run_law s ms)

-- what opening answered tells whether there was a fault

pub opened_ok : (o : Option Refusal) (s t : State) → ◌≡◌ {A = Result State Refusal} (Ok t) (unless o s) → (o ≡ None) × (t ≡ s)
opened_ok None s t e = (refl, cc)
opened_ok (Some f) s t e = let z : ◌≡◌ {A = ℕ} 0 1 = cc in absurd (omega arith)

pub opened_err : (o : Option Refusal) (s : State) (f : Refusal) → ◌≡◌ {A = Result State Refusal} (Err f) (unless o s) → o ≡ Some f
opened_err None s f e = let z : ◌≡◌ {A = ℕ} 0 1 = cc in absurd (omega arith)
opened_err (Some h) s f e = let d : h ≡ f = cc in ap Some d

-- a refused session

pub refused_answer : (o : Option Refusal) (f : Refusal) (r : Result (Unit {0}) Refusal) → o ≡ Some f → IsErrAnd r (λ h. h ≡ f) → r ≡ unless o tt
refused_answer o f (Ok u) e h = absurd h
refused_answer o f (Err h) e d = ap Err d ∙ ap (λ (q : Option Refusal). unless q tt) (sym e)

pub refused_slots : (o : Option Refusal) (f : Refusal) (made asked : List Asked) → o ≡ Some f → asked ≡ if_allowed o made asked
refused_slots o f made asked e = ap (λ (q : Option Refusal). if_allowed q made asked) (sym e)

-- the slots of a session that was opened
pub made_slots : (o : Option Refusal) (s t : State) (now asked : List Asked) → o ≡ None → t ≡ s → now ≡ answered t asked → now ≡ if_allowed o (answered s asked) asked
made_slots o s t now asked eo es e =
    e ∙ ap (λ (u : State). answered u asked) es ∙ ap (λ (q : Option Refusal). if_allowed q (answered s asked) asked) (sym eo)

-- from the plan just opened
pub session_honest : (g a : Grid) (x : Numbers) (ms : List calls.Call) (rs : List Reply) (s : State) → open_fault g a x ≡ None → s ≡ opened g a x
    → RunLaw s ms rs → HonestSession g a x ms rs
session_honest g a x ms rs s e es h = h g a x [] (record { opens = e; stands = sym es })
