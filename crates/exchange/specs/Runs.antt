-- The whole exchange: what it offers, in order, how many steps it begins, and how it ends.
use Rattle.std.specs.Prelude.{ℕ, zero, suc, cond, List, [], ◌∷◌, ◌++◌, Some, None, Option, Float}
use Rattle.std.specs.Float.Ieee.{lt}
use Rattle.duality.specs.Problem.{Problem}
use Rattle.elimination.specs.Lines.{largest, none}
use Rattle.exchange.specs.Steps.{changed, solved_at, step_at}
use Rattle.exchange.specs.declared.members.Member.{Member}
use Rattle.exchange.specs.declared.members.Offer.{Offer}
use Rattle.exchange.specs.declared.members.Choice.{Choice}
use Rattle.exchange.specs.declared.members.Choice.TheVariants.{Enter, Leave, Full, Done}
use Rattle.exchange.specs.declared.members.Step.{Step}
use Rattle.exchange.specs.declared.members.Step.TheVariants.{Stuck, Found}
use Rattle.exchange.specs.declared.members.Report.{Report}
use Rattle.exchange.specs.declared.members.End.{End}
use Rattle.exchange.specs.declared.members.End.TheVariants as end

pub record Run : Type 0 where
  pub offers : List Offer
  pub steps : ℕ
  pub ending : End
  pub smallest : Float

-- nothing more
abbrev pub over : End → Float → Run
over e s = record { offers = []; steps = 0; ending = e; smallest = s }

-- one step before the others
abbrev pub stepped : List Offer → Run → Run
stepped os r = record { offers = os ++ r.offers; steps = suc r.steps; ending = r.ending; smallest = r.smallest }

-- what a step offers
abbrev pub offers_of : Step → List Offer
offers_of Stuck = []
offers_of (Found o ch) = o ∷ []

-- the end that a choice means, if it is one
abbrev pub end_of : Choice → Option End
end_of (Enter w) = None
end_of (Leave k) = None
end_of Full = Some end.Full
end_of Done = Some end.Done

-- the end that a step means, if it is one
abbrev pub end_after : Step → Option End
end_after Stuck = Some end.Stuck
end_after (Found o ch) = end_of ch

abbrev pub or_over : Option End → Float → Run → Run
or_over None s r = r
or_over (Some e) s r = over e s

-- what follows a step, where s is the smallest pivot by then: a stuck step counts and offers nothing
abbrev pub after_step : Step → Float → List Member → (List Member → Float → Run) → Run
after_step Stuck s ms next = stepped [] (over end.Stuck s)
after_step (Found o ch) s ms next = stepped (o ∷ []) (or_over (end_of ch) s (next (changed ms ch) s))

-- at most b steps more
abbrev pub run_from : ℕ → Problem → List Member → Float → Run
run_from zero P ms s = over end.Spent s
run_from (suc b) P ms s = after_step (step_at P ms s) (solved_at P ms s).0 ms (run_from b P)

-- the exchange of a problem under a budget of steps
unfoldable pub exchanged : Problem → ℕ → Run
exchanged P budget = run_from budget P [] largest

-- the smallest pivot as it is reported: 0 where none was taken
abbrev pub reported : Float → Float
reported s = cond (lt s largest) s none

-- what is said of steps that end so, where s is the smallest pivot
abbrev pub report_at : ℕ → End → Float → Report
report_at k e s = record { steps = k; end = e; smallest = reported s }

abbrev pub report_of : Run → Report
report_of r = report_at r.steps r.ending r.smallest
