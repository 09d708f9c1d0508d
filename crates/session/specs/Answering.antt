-- What is answered to a call and to a run of calls, and what is left of the plan.
use Rattle.std.specs.Prelude.{List, [], ◌∷◌, length, Some, Result}
use Rattle.table.specs.Grid.{Grid}
use Rattle.opening.specs.declared.refusal.Refusal.{Refusal}
use Rattle.opening.specs.Opening.{Numbers, open_fault}
use Rattle.calls.specs.States.{State}
use Rattle.calls.specs.Opened.{opened}
use Rattle.calls.specs.Steps.{unless, if_allowed, point_answer, pair_answer, proof_answer, amend_answer, show_answer, shown_in}
use Rattle.calls.specs.Solving.{solve_refusal, report}
use Rattle.plan.specs.View.{pair_of}
use Rattle.session.specs.declared.asks.Answer.{Answer}
use Rattle.session.specs.declared.asks.Answer.TheVariants.{Judged, Amended, Solved, Shown}
use Rattle.calls.specs.Histories as calls
use Rattle.calls.specs.Histories.{after}
use Rattle.calls.specs.Runs.{Reply, HonestRun}
use Rattle.session.specs.declared.asks.Asked.{Asked}
use Rattle.session.specs.declared.asks.Call.{Call}
use Rattle.session.specs.declared.asks.Call.TheVariants.{Point, Floor, Proof, Amend, Solve, Show}
use Rattle.session.specs.Said.{asked_of}

-- the call as it is handed back: a list that was handed to a show is the same list, written into
abbrev pub written : State → Call → Call
written s (Point z) = Point z
written s (Floor q) = Floor q
written s (Proof y) = Proof y
written s (Amend m) = Amend m
written s (Solve steps moves) = Solve steps moves
written s (Show out) = Show (record out { now = shown_in s out.now })

abbrev pub answer_to : State → Call → Answer
answer_to s (Point z) = Judged (point_answer s z.now)
answer_to s (Floor q) = Judged (pair_answer s (pair_of q))
answer_to s (Proof y) = Judged (proof_answer s y.now)
answer_to s (Amend m) = Amended (amend_answer s m)
answer_to s (Solve steps moves) = Solved (unless (solve_refusal steps moves) (report s steps moves))
answer_to s (Show out) = Shown (show_answer s (length out.now))

-- a slot whose call was made
abbrev pub filled : State → Asked → Asked
filled s a = record { call = written s a.call; answer = Some (answer_to s a.call) }

-- all slots once their calls were made in turn
abbrev pub answered : State → List Asked → List Asked
answered s [] = []
answered s (a ∷ rest) = filled s a ∷ answered (after s (asked_of a)) rest

-- a session is refused for the first fault of opening alone
abbrev pub session_answer : Grid → Grid → Numbers → Result (Unit {0}) Refusal
session_answer g a x = unless (open_fault g a x) tt

-- its slots are answered as on the plan just opened; where it is refused, they stay
abbrev pub session_slots : Grid → Grid → Numbers → List Asked → List Asked
session_slots g a x asked = if_allowed (open_fault g a x) (answered (opened g a x) asked) asked

-- Law: what every show of the session tells is honest about the plan just opened and all calls made by then.
abbrev pub HonestSession : Grid → Grid → Numbers → List calls.Call → List Reply → Type 0
HonestSession g a x ms rs = HonestRun (opened g a x) [] ms rs
