-- Sequences of calls as histories, and the law of a whole run.
use Rattle.std.proofs.Common.{◌≡◌, ℕ, zero, suc, List, [], ◌∷◌, length, ℤ, Some, Ok, sym, refl, ap, ◌∙◌, subst, arith}
use Rattle.calls.specs.declared.answers.Shown.{Shown}
use Rattle.calls.specs.States.{State}
use Rattle.calls.specs.Steps.{show_answer, shown_in}
use Rattle.calls.specs.Opened.{opened}
use Rattle.calls.specs.Histories.{Call, offer, amend, solve, show, after, reached}
use Rattle.calls.specs.Runs.{Reply, showed, reply, replies, after_all, first_calls, nth, HonestRun, RunLaw, LeavesAfter, AsOne}
use Rattle.calls.specs.Fairness.{Fair, FairRunLaw, LeavesFair}
use Rattle.calls.proofs.Keeping.{reached_fair}
use Rattle.calls.proofs.Opened.{opened_fair}
use Rattle.calls.proofs.Showing.{show_honest}

pub after_all_lem : (s : State) (past calls : List Call) → after_all (reached s past) calls ≡ reached s (first_calls calls (length calls) past)
after_all_lem s past [] = refl
after_all_lem s past (m ∷ ms) = after_all_lem s (m ∷ past) ms

-- the state after a sequence of calls is the one that they lead to as a history
pub run_reached : (s : State) (calls : List Call) → after_all s calls ≡ reached s (first_calls calls (length calls) [])
run_reached s calls = after_all_lem s [] calls

-- answer k is the reply to a call in the state that the first k calls lead to
pub nth_reply : (s : State) (past calls : List Call) (k : ℕ) (x : Reply) → nth (replies (reached s past) calls) k ≡ Some x →
    (m : Call) × (reply (reached s (first_calls calls k past)) m ≡ x)
nth_reply s past [] k x e = let z : ◌≡◌ {A = ℕ} 0 1 = cc in absurd (omega arith)
nth_reply s past (m ∷ ms) zero x e = (m, (cc))
nth_reply s past (m ∷ ms) (suc k) x e = nth_reply s (m ∷ past) ms k x e

-- a call that shows was handed a list
pub record WasShow (t : State) (r : Shown) (z : List ℤ) : Type 0 where
  pub out : List ℤ
  pub answer : Ok r ≡ show_answer t (length out)
  pub list : z ≡ shown_in t out

was_show : (t : State) (m : Call) (r : Shown) (z : List ℤ) → reply t m ≡ showed (Ok r) z → WasShow t r z
was_show t (offer o) r z e = let n : ◌≡◌ {A = ℕ} 0 1 = cc in absurd (omega arith)
was_show t (amend m) r z e = let n : ◌≡◌ {A = ℕ} 0 1 = cc in absurd (omega arith)
was_show t (solve steps moves) r z e = let n : ◌≡◌ {A = ℕ} 0 1 = cc in absurd (omega arith)
was_show t (show out) r z e = record { out = out; answer = cc; list = cc }

-- from any fair start
pub run_honest : (s : State) (past calls : List Call) → Fair s → HonestRun s past calls (replies (reached s past) calls)
run_honest s past calls fair k r z e =
    let before = first_calls calls k past in
    let t = reached s before in
    let at = nth_reply s past calls k (showed (Ok r) z) e in
    let asked = was_show t at.0 r z at.1 in
    show_honest t asked.out (Ok r) z asked.answer asked.list s before fair refl r refl

-- a plan just opened is a fair start
pub run_law : (t : State) (calls : List Call) → RunLaw t calls (replies t calls)
run_law t calls g a x past s =
    subst (λ (u : State). HonestRun (opened g a x) past calls (replies u calls)) s.stands (run_honest (opened g a x) past calls (opened_fair g a x s.opens))

pub leaves_after : (t : State) (calls : List Call) → LeavesAfter t calls (after_all t calls)
leaves_after t calls g a x past s =
    record {
      opens = s.opens;
      stands = sym (after_all_lem (opened g a x) past calls) ∙ ap (λ (u : State). after_all u calls) s.stands;
    }

-- from a fair plan, without a history

pub fair_run_law : (s : State) (calls : List Call) → FairRunLaw s calls (replies s calls)
fair_run_law s calls = run_honest s [] calls

pub leaves_fair : (s : State) (calls : List Call) → LeavesFair s (after_all s calls)
leaves_fair s calls fair = subst Fair (sym (run_reached s calls)) (reached_fair s (first_calls calls (length calls) []) fair)

-- two runs as one

pub as_one : (s : State) (ms ns : List Call) → AsOne s ms ns
as_one s [] ns = record { answers = refl; leaves = refl }
as_one s (m ∷ ms) ns =
    let rest = as_one (after s m) ms ns in
    record { answers = ap (λ (rs : List Reply). reply s m ∷ rs) rest.answers; leaves = rest.leaves }
