-- What every exchange keeps to, step by step, in the words of a problem.
use Rattle.std.specs.Prelude.{◌≡◌, ℕ, ◌≤◌, List, [], ◌∷◌, length, Some, None, Option, IfSome, flat_map, Float}
use Rattle.duality.specs.Problem.{Problem}
use Rattle.std.specs.Float.{◌<ᶠ◌}
use Rattle.elimination.specs.Lines.{none}
use Rattle.elimination.specs.Runs.{Least, Takable, sizes}
use Rattle.elimination.specs.declared.pivots.Pivot.{Pivot}
use Rattle.exchange.specs.Steps.{members_after, StepMeans}
use Rattle.exchange.specs.Runs.{offers_of}
use Rattle.exchange.specs.declared.members.Member.{Member}
use Rattle.exchange.specs.declared.members.Offer.{Offer}
use Rattle.exchange.specs.declared.members.Report.{Report}
use Rattle.exchange.specs.declared.members.Step.{Step}
use Rattle.exchange.specs.declared.members.End.{End}
use Rattle.exchange.specs.declared.members.End.TheVariants as end
use Rattle.exchange.specs.declared.members.Choice.TheVariants.{Enter, Leave, Full, Done}
use Rattle.exchange.specs.declared.members.Step.TheVariants.{Stuck, Found}

-- a step of a run, and the pivots that it takes
pub record Turn : Type 0 where
  pub step : Step
  pub pivots : List Pivot

-- a further step is due after one by which a member enters or leaves
abbrev pub Due : Step → Type 0
Due Stuck = ⊥
Due (Found o (Enter w)) = Unit {0}
Due (Found o (Leave k)) = Unit {0}
Due (Found o Full) = ⊥
Due (Found o Done) = ⊥

-- Turns that follow one another from the set ms on: each step means what it says of its set, its choice makes the next set, and none follows after which no further one is due.
abbrev pub Follow : Problem → List Member → List Turn → Type 0
Follow P ms [] = Unit {0}
Follow P ms (t ∷ ts) = StepMeans P ms t.pivots t.step × (¬ (Due t.step) → ts ≡ []) × Follow P (members_after ms t.step) ts

-- the last step of some turns, if there is one
abbrev pub last : List Turn → Option Step
last [] = None
last (t ∷ []) = Some t.step
last (t ∷ (u ∷ ts)) = last (u ∷ ts)

-- How turns end under a budget: done, full or stuck exactly if the last step is, and spent exactly if a further one is due and the budget is used.
abbrev pub EndsAs : ℕ → List Turn → End → Type 0
EndsAs budget ts end.Done = (o : Offer) × (last ts ≡ Some (Found o Done))
EndsAs budget ts end.Full = (o : Offer) × (last ts ≡ Some (Found o Full))
EndsAs budget ts end.Stuck = last ts ≡ Some Stuck
EndsAs budget ts end.Spent = IfSome (last ts) Due × (length ts ≡ budget)

-- the sizes of all pivots taken
abbrev pub taken : List Turn → List Float
taken ts = flat_map (λ t. sizes t.pivots) ts

-- how the smallest pivot is told: 0 if none was taken, and else the least, which lies between the limits of a pivot
abbrev pub Told : List Float → Float → Type 0
Told [] x = x ≡ none
Told (p ∷ ps) x = Least (p ∷ ps) x × Takable x

-- Law: a run is a list of steps from the empty set on. Each step offers once, but for one that is stuck.
pub record LawfulRun (P : Problem) (budget : ℕ) (offers : List Offer) (r : Report) : Type 0 where
  pub turns : List Turn
  pub follow : Follow P [] turns
  pub counted : r.steps ≡ length turns
  pub within_budget : r.steps ≤ budget
  pub offered : offers ≡ flat_map (λ t. offers_of t.step) turns
  pub ends : EndsAs budget turns r.end
  pub smallest : Told (taken turns) r.smallest

-- No other offers, steps and end keep to that, and no smallest pivot that is less or more.
abbrev pub AloneRun : Problem → (budget : ℕ) → List Offer → Report → Type 0
AloneRun P budget offers r =
    (os : List Offer) (q : Report) → LawfulRun P budget os q →
    (os ≡ offers) × (q.steps ≡ r.steps) × (q.end ≡ r.end) × ¬ (q.smallest <ᶠ r.smallest) × ¬ (r.smallest <ᶠ q.smallest)
