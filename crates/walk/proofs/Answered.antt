-- What the call answers, from what the walk comes to, and back.
use Rattle.std.proofs.Common.{◌≡◌, ℕ, true, false, List, ℤ, Ok, Err, IsOk, Result, sym, refl, ap, ◌∙◌, subst}
use Rattle.std.proofs.lemmas.Bool.{cond-true, cond-false}
use Rattle.duality.specs.Problem.{Problem}
use Rattle.job.specs.Bounds.{is_in_bounds}
use Rattle.walk.specs.Walks.{Ended, ended, walk_from, walked, walked_to}
use Rattle.walk.specs.declared.ends.Walked.{Walked}
use Rattle.walk.specs.declared.ends.OutOfBounds.{OutOfBounds}

module _ (P : Problem) (b : ℕ) (z : List ℤ) where
  pub walked_not : is_in_bounds P z ≡ false → Err (record {}) ≡ walked P b z
  unfolding walked
  walked_not e = sym (cond-false _ _ _ e)

  pub stays : is_in_bounds P z ≡ false → z ≡ walked_to P b z
  unfolding walked_to
  stays e = sym (cond-false _ _ _ e)

  pub walked_is : (y : List ℤ) (w : Walked) → is_in_bounds P z ≡ true → ended y w ≡ walk_from P b z → Ok w ≡ walked P b z
  unfolding walked
  walked_is y w i e = ap (λ (x : Ended). Ok (record { moves = x.moves; end = x.end })) e ∙ sym (cond-true _ _ _ i)

  pub walked_to_is : (y : List ℤ) (w : Walked) → is_in_bounds P z ≡ true → ended y w ≡ walk_from P b z → y ≡ walked_to P b z
  unfolding walked_to
  walked_to_is y w i e = ap (λ (x : Ended). x.point) e ∙ sym (cond-true _ _ _ i)

  -- for callers whose point lies in its bounds: the walk is made
  module _ (r : Result Walked OutOfBounds) (i : is_in_bounds P z ≡ true) (e : r ≡ walked P b z) where
    answer : r ≡ Ok (record { moves = (walk_from P b z).moves; end = (walk_from P b z).end })
    unfolding walked
    answer = e ∙ cond-true _ _ _ i

    pub walk_made : IsOk r
    walk_made = subst IsOk (sym answer) refl

    -- and this is what it comes to
    pub walk_ended : (y : List ℤ) (w : Walked) → r ≡ Ok w → y ≡ walked_to P b z → ended y w ≡ walk_from P b z
    unfolding walked_to
    walk_ended y w f g =
        let h : Ok w ≡ Ok (record { moves = (walk_from P b z).moves; end = (walk_from P b z).end }) = sym f ∙ answer in
        let k : w ≡ record { moves = (walk_from P b z).moves; end = (walk_from P b z).end } = cc in
        let l : y ≡ (walk_from P b z).point = g ∙ cond-true _ _ _ i in
        ap (λ (x : Walked). ended y x) k ∙ ap (λ (x : List ℤ). record { point = x; moves = (walk_from P b z).moves; end = (walk_from P b z).end }) l
