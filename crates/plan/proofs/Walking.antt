-- A walk from a point inside its bounds is not refused.
use Rattle.std.proofs.Common.{◌≡◌, ℕ, true, List, ℤ, is_ok, Ok, Result, ap, ◌∙◌}
use Rattle.std.proofs.lemmas.Bool.{cond-true}
use Rattle.duality.specs.Problem.{Problem}
use Rattle.job.specs.Bounds.{is_in_bounds}
use Rattle.walk.specs.Walks.{ended, walk_from, walked, walked_to}
use Rattle.walk.specs.declared.ends.Walked.{Walked}
use Rattle.walk.specs.declared.ends.OutOfBounds.{OutOfBounds}

module _ (P : Problem) (b : ℕ) (z : List ℤ) (r : Result Walked OutOfBounds) (inside : is_in_bounds P z ≡ true) (er : r ≡ walked P b z) where
  answer_is : r ≡ Ok (record { moves = (walk_from P b z).moves; end = (walk_from P b z).end })
  unfolding walked
  answer_is = er ∙ cond-true (is_in_bounds P z) _ _ inside

  pub walk_answers : is_ok r ≡ true
  walk_answers = ap is_ok answer_is

  pub walk_ends : (y : List ℤ) (w : Walked) → y ≡ walked_to P b z → r ≡ Ok w → ended y w ≡ walk_from P b z
  unfolding walked_to answer_is
  walk_ends y w ey ew =
      let p : y ≡ (walk_from P b z).point = ey ∙ cond-true (is_in_bounds P z) _ _ inside in
      let a = answer_is in
      let k : w ≡ record { moves = (walk_from P b z).moves; end = (walk_from P b z).end } = cc in
      ap (ended y) k ∙ ap (λ (x : List ℤ). ended x (record { moves = (walk_from P b z).moves; end = (walk_from P b z).end })) p
