-- A search and a walk, in the words of a problem.
use Rattle.std.specs.Prelude.{ℕ, zero, suc, ◌+◌, Bool, cond, List, [], ◌∷◌, ℤ, is_some, Some, None, Ok, Err, Option, Result}
use Rattle.duality.specs.Problem.{Problem}
use Rattle.job.specs.Bounds.{is_in_bounds}
use Rattle.walk.specs.Moves.{after, candidates}
use Rattle.walk.specs.Lowering.{lowers}
use Rattle.walk.specs.declared.moves.Move.{Move}
use Rattle.walk.specs.declared.ends.Walked.{Walked}
use Rattle.walk.specs.declared.ends.OutOfBounds.{OutOfBounds}
use Rattle.walk.specs.declared.ends.End.{End}
use Rattle.walk.specs.declared.ends.End.TheVariants.{Settled, Spent}

-- the first of a list that passes
unfoldable pub first : (Move → Bool) → List Move → Option Move
first t [] = None
first t (m ∷ ms) = cond (t m) (Some m) (first t ms)

unfoldable pub first_move : Problem → List ℤ → Option Move
first_move P z = first (lowers P z) (candidates P.ropes)

-- the point after a search
abbrev pub moved : Option Move → List ℤ → List ℤ
moved None z = z
moved (Some m) z = after z m

-- where a walk ends, after how many moves, and why
pub record Ended : Type 0 where
  pub point : List ℤ
  pub moves : ℕ
  pub end : End

abbrev pub one_more : Ended → Ended
one_more w = record { point = w.point; moves = w.moves + 1; end = w.end }

abbrev pub onward : (List ℤ → Ended) → List ℤ → Option Move → Ended
onward go z None = record { point = z; moves = 0; end = Settled }
onward go z (Some m) = one_more (go (after z m))

-- from z, with so many moves left
unfoldable pub walk_from : Problem → ℕ → List ℤ → Ended
walk_from P zero z = record { point = z; moves = 0; end = cond (is_some (first_move P z)) Spent Settled }
walk_from P (suc b) z = onward (walk_from P b) z (first_move P z)

-- the same as a report, and the point beside it
abbrev pub ended : List ℤ → Walked → Ended
ended z w = record { point = z; moves = w.moves; end = w.end }

-- what the call answers: it refuses a list that is no point inside its bounds
unfoldable pub walked : Problem → ℕ → List ℤ → Result Walked OutOfBounds
walked P b z = cond (is_in_bounds P z) (Ok (record { moves = (walk_from P b z).moves; end = (walk_from P b z).end })) (Err (record {}))

-- and where it leaves the point: a refusal leaves it as it stood
unfoldable pub walked_to : Problem → ℕ → List ℤ → List ℤ
walked_to P b z = cond (is_in_bounds P z) (walk_from P b z).point z
