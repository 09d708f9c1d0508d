-- Sequences of calls: the state that they lead to, the numbers in force after them, and what they offered.
-- A history stands with the latest call first.
use Rattle.std.specs.Prelude.{◌≡◌, ℕ, ◌⊎◌, List, [], ◌∷◌, ℤ, None}
use Rattle.terms.specs.Numbers.{Numbers}
use Rattle.calls.specs.declared.answers.Amendment.{Amendment}
use Rattle.calls.specs.States.{State}
use Rattle.calls.specs.Refusing.{amend_refusal}
use Rattle.calls.specs.Steps.{amendment, if_allowed, amended}
use Rattle.calls.specs.Offers.{Offer, took, took_all, Among}
use Rattle.calls.specs.Solving.{solve_refusal, solve_offers}

-- a call, with what it is handed
pub data Call : Type 0 where
  offer : Offer → Call
  amend : Amendment → Call
  solve : ℕ → ℕ → Call
  show : List ℤ → Call

-- what a call offers, made in this state
abbrev pub offers : State → Call → List Offer
offers s (offer o) = o ∷ []
offers s (amend m) = []
offers s (solve steps moves) = if_allowed (solve_refusal steps moves) (solve_offers s steps moves) []
offers s (show out) = []

-- a call that is no amendment does nothing but offer
abbrev pub after : State → Call → State
after s (offer o) = took s o
after s (amend m) = amended s m
after s (solve steps moves) = took_all s (offers s (solve steps moves))
after s (show out) = s

abbrev pub reached : State → List Call → State
reached s [] = s
reached s (m ∷ past) = after (reached s past) m

-- the numbers in force: those of the start, as all amendments that were not refused set them

abbrev pub amended_by : Numbers → Call → Numbers
amended_by x (offer o) = x
amended_by x (amend m) = if_allowed (amend_refusal x m) (amendment x m) x
amended_by x (solve steps moves) = x
amended_by x (show out) = x

abbrev pub in_force : Numbers → List Call → Numbers
in_force x [] = x
in_force x (m ∷ past) = amended_by (in_force x past) m

-- a call that is no amendment, or one that is refused
abbrev pub Leaves : Numbers → Call → Type 0
Leaves x (offer o) = Unit {0}
Leaves x (amend m) = amend_refusal x m ≡ None → ⊥
Leaves x (solve steps moves) = Unit {0}
Leaves x (show out) = Unit {0}

-- o was offered since the last amendment, or since the start where there was none
abbrev pub Offered : State → List Call → Offer → Type 0
Offered s [] o = ⊥
Offered s (m ∷ past) o = Among o (offers (reached s past) m) ⊎ (Leaves (in_force s.numbers past) m × Offered s past o)
