-- What is held, as what is to be bettered.
use Rattle.std.specs.Prelude.{◌≡◌, List, ℤ}
use Rattle.std.specs.Option.{option_map}
use Rattle.duality.specs.Lists.{places}
use Rattle.duality.specs.Problem.{cost}
use Rattle.calls.specs.States.{State, problem, floor_of}
use Rattle.plan.specs.declared.bests.Bests.{Bests}

pub record Stands (s : State) (b : Bests) : Type 0 where
  pub cost : b.cost ≡ option_map (λ (z : List ℤ). cost (problem s) (places z)) s.point
  pub floor : b.floor ≡ floor_of (problem s) s.pair
