-- A step of the exchange.
use Rattle.std.specs.Prelude.{◌≡◌, ℕ, ◌+◌, ◌<◌, false, List, [], ◌∷◌, ◌++◌, length, Some, None, Option, Float, true, take}
use Rattle.std.specs.List.{remove}
use Rattle.duality.specs.Problem.{Problem}
use Rattle.elimination.specs.Lines.{solved}
use Rattle.elimination.specs.Runs.{Lead, Ends, Least, sizes}
use Rattle.elimination.specs.declared.pivots.Pivot.{Pivot}
use Rattle.duality.specs.Tests.{all_within}
use Rattle.job.specs.Bounds.{InBounds}
use Rattle.exchange.specs.Members.{Of}
use Rattle.exchange.specs.Systems.{system_of}
use Rattle.exchange.specs.Breaches.{holds}
use Rattle.exchange.specs.Choice.{chosen}
use Rattle.exchange.specs.Meanings.{OfferOf, Means}
use Rattle.exchange.specs.Offers.{pulls_of, pressures_of, offered}
use Rattle.exchange.specs.declared.members.Member.{Member}
use Rattle.exchange.specs.declared.members.Choice.{Choice}
use Rattle.exchange.specs.declared.members.Choice.TheVariants.{Enter, Leave, Full, Done}
use Rattle.exchange.specs.declared.members.Step.{Step}
use Rattle.exchange.specs.declared.members.Step.TheVariants.{Stuck, Found}

-- the working set after a choice
abbrev pub changed : List Member → Choice → List Member
changed ms (Enter w) = ms ++ w ∷ []
changed ms (Leave k) = remove ms k
changed ms Full = ms
changed ms Done = ms

-- a choice that a set of n ropes and m rows can follow: who enters is new and finds room, who leaves is there
abbrev pub Follows : ℕ → ℕ → List Member → Choice → Type 0
Follows n m ms (Enter w) = (length ms < n) × Of n m w.limit × (holds ms w.limit ≡ false)
Follows n m ms (Leave k) = k < length ms
Follows n m ms Full = Unit {0}
Follows n m ms Done = Unit {0}

abbrev pub choice_at : Problem → List Member → List Float → Choice
choice_at P ms us = chosen P ms (pulls_of P us) (pressures_of P us)

-- what a step says once its system is solved or stuck
abbrev pub found : Problem → List Member → Option (List Float) → Step
found P ms None = Stuck
found P ms (Some us) = Found (offered P ms us) (choice_at P ms us)

-- the system of a working set solved: the smallest pivot so far, and the unknowns
abbrev pub solved_at : Problem → List Member → Float → Float × Option (List Float)
solved_at P ms s = solved s (system_of P ms)

-- a step of this working set
abbrev pub step_at : Problem → List Member → Float → Step
step_at P ms s = found P ms (solved_at P ms s).1

abbrev pub members_after : List Member → Step → List Member
members_after ms Stuck = ms
members_after ms (Found o ch) = changed ms ch

-- Law: a step offers a point inside the bounds, and multipliers inside their limit; one that is stuck offers nothing.
abbrev pub OffersInside : Problem → Step → Type 0
OffersInside P Stuck = Unit {0}
OffersInside P (Found o ch) = InBounds P (take P.ropes o.point) × (all_within 16777216 (take P.rows o.multipliers) ≡ true)

-- The columns of a working set's system are done by these pivots, and it ends with these unknowns, or stuck with none.
abbrev pub Solution : Problem → List Member → List Pivot → Option (List Float) → Type 0
Solution P ms ps us =
    (ls : List (List Float)) × Lead (length (system_of P ms) + 1) 0 ps (system_of P ms) ls × Ends (length (system_of P ms)) (length ps) ls us

-- What a step means that takes these pivots: stuck, that its system has no solution within the limits; and else that its offer and its choice are as they say of the rounded solution.
abbrev pub StepMeans : Problem → List Member → List Pivot → Step → Type 0
StepMeans P ms ps Stuck = Solution P ms ps None
StepMeans P ms ps (Found o ch) =
    (us : List Float) × Solution P ms ps (Some us) × OfferOf P ms (pulls_of P us) (pressures_of P us) o × Means P ms (pulls_of P us) (pressures_of P us) ch

-- Law of the choice: whatever unknowns a set's system may have, who is chosen then has the meaning of the choice.
abbrev pub ChosenWell : Problem → List Member → Type 0
ChosenWell P ms = (us : List Float) → Means P ms (pulls_of P us) (pressures_of P us) (choice_at P ms us)

-- Law: a step means what it says, and no other step does; s is the smallest pivot before it, and t the least of s and those that it takes.
pub record LawfulStep (P : Problem) (ms : List Member) (s : Float) (st : Step) (t : Float) : Type 0 where
  pub pivots : List Pivot
  pub means : StepMeans P ms pivots st
  pub smallest : Least (s ∷ sizes pivots) t
  pub alone : (ps : List Pivot) (x : Step) → StepMeans P ms ps x → (ps ≡ pivots) × (x ≡ st)
