-- A plan that was just opened.
use Rattle.std.specs.Prelude.{length, replicate, pos, None, Ok, Err, Result}
use Rattle.duality.specs.Convex.{Symmetric, Convex}
use Rattle.table.specs.Grid.{Grid}
use Rattle.opening.specs.declared.refusal.Refusal.{Refusal}
use Rattle.opening.specs.Opening.{Numbers}
use Rattle.opening.specs.Fits.{Fits}
use Rattle.terms.specs.Numbers.{numbers}
use Rattle.calls.specs.States.{State, problem}

-- the tables and numbers handed in, no point, no proof, and the pair of l with all multipliers 0
abbrev pub opened : Grid → Grid → Numbers → State
opened g a x =
    record {
      g = g;
      a = a;
      numbers = numbers x.c x.l x.u x.lo x.hi;
      point = None;
      proof = None;
      pair = record { point = x.l; multipliers = replicate (length x.lo) (pos 0) };
    }

-- what later laws rest on: everything fits, and the cost is convex
pub record Sound (g a : Grid) (x : Numbers) (s : State) : Type 0 where
  pub fits : Fits g a x
  pub symmetric : Symmetric (problem s).ropes (problem s).G
  pub convex : Convex (problem s).ropes (problem s).G

-- what opening answers, with the state that a plan stands for in its place
abbrev pub viewed : {P : Type 0} → (P → State) → Result P Refusal → Result State Refusal
viewed view (Ok p) = Ok (view p)
viewed view (Err e) = Err e
