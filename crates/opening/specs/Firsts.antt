-- The first of several answers, and what comes where there is none.
use Rattle.std.specs.Prelude.{ℕ, zero, suc, Some, None, Ok, Err, Option, Result}
use Rattle.std.specs.Option.{option_or}
use Rattle.opening.specs.declared.refusal.Refusal.{Refusal}

-- the first that is given of f 0, f 1, .. below n
abbrev pub first_of : {X : Type 0} → (ℕ → Option X) → ℕ → Option X
first_of f zero = None
first_of f (suc n) = option_or (first_of f n) (f n)

-- an answer, unless there is a reason to refuse
abbrev pub unless : {X : Type 0} → Option Refusal → X → Result X Refusal
unless None x = Ok x
unless (Some e) x = Err e
