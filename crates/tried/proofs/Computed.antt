-- The whole table as one computed test: what the definitions give for all questions is what is said of all of them.
use Rattle.std.proofs.Common.{◌≡◌, List, [], ◌∷◌, map, refl, ap}
use Rattle.std.specs.List.{AllByRecursion}
use Rattle.duality.specs.Problem.{cost}
use Rattle.duality.specs.Convex.{remainder, around}
use Rattle.duality.specs.Floor.{residual, slack}
use Rattle.duality.specs.Refutation.{most_allowed, least_needed}
use Rattle.block.specs.Blocks.{block_of, body_of}
use Rattle.tried.specs.Telling.{Told, answers}
use Rattle.tried.specs.Cases.{Case, AllHold, cases}

-- two functions that agree along a list agree at each of its elements
alike : {X Y : Type 0} (f g : X → Y) (xs : List X) → map f xs ≡ map g xs → AllByRecursion (λ x. f x ≡ g x) xs
alike f g [] e = tt
alike f g (x ∷ xs) e = (first, alike f g xs rest)
  where
    first : f x ≡ g x
    first = cc

    rest : map f xs ≡ map g xs
    rest = cc

asked : Case → List Told
asked c = answers c.question

said : Case → List Told
said c = c.said

test : map asked cases ≡ map said cases
unfolding cases asked said cost remainder around residual slack most_allowed least_needed block_of body_of
test = refl

pub all_hold : AllHold cases
unfolding asked said
all_hold = alike asked said cases test
