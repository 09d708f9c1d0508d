-- What can be offered to a plan, and what a sequence of offers leaves.
use Rattle.std.specs.Prelude.{◌≡◌, ◌⊎◌, List, [], ◌∷◌, ℤ}
use Rattle.calls.specs.States.{State, Pair}
use Rattle.calls.specs.Steps.{pointed, paired, proven}

pub data Offer : Type 0 where
  point : List ℤ → Offer
  pair : Pair → Offer
  proof : List ℤ → Offer

-- the state once an offer was judged
abbrev pub took : State → Offer → State
took s (point z) = pointed s z
took s (pair q) = paired s q
took s (proof y) = proven s y

abbrev pub took_all : State → List Offer → State
took_all s [] = s
took_all s (o ∷ os) = took_all (took s o) os

abbrev pub Among : Offer → List Offer → Type 0
Among o [] = ⊥
Among o (p ∷ os) = (p ≡ o) ⊎ Among o os
