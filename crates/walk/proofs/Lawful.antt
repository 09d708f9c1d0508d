-- The laws of a walk, from its definition.
use Rattle.std.proofs.Common.{◌≡◌, ℕ, zero, suc, ◌+◌, ◌≤◌, cond, List, ℤ, is_some, Some, None, Option, sym, refl, ◌∙◌, subst, inl, inr, add-one, arith}
use Rattle.duality.specs.Lists.{places}
use Rattle.duality.specs.Sums.{Vector}
use Rattle.duality.specs.Problem.{Problem}
use Rattle.duality.proofs.Ring.{lin}
use Rattle.job.specs.Bounds.{InBounds}
use Rattle.walk.specs.Laws.{Downhill, NoWorse, Lawful}
use Rattle.walk.specs.Lowering.{Below}
use Rattle.walk.specs.Moves.{after}
use Rattle.walk.specs.Walks.{first_move, Ended, onward, walk_from, ended}
use Rattle.walk.specs.declared.moves.Move.{Move}
use Rattle.walk.specs.declared.ends.Walked.{Walked}
use Rattle.walk.specs.declared.ends.End.{End}
use Rattle.walk.specs.declared.ends.End.TheVariants.{Settled, Spent}
use Rattle.walk.proofs.Steps.{found_descends, found_first, none_descends, inside_after}

-- a way downhill never leads to a worse point, nor out of the bounds
worse_not : (P : Problem) (x y z : Vector) → Below P x y → NoWorse P y z → NoWorse P x z
worse_not P x y z (inl a) (inl b) = inl (omega (arith, lin))
worse_not P x y z (inl a) (inr b) = let e = b.0 in inl (omega (arith, lin))
worse_not P x y z (inr a) (inl b) = let e = a.0 in inl (omega (arith, lin))
worse_not P x y z (inr a) (inr b) =
    let e = a.0 in
    let f = b.0 in
    let g = a.1 in
    let h = b.1 in
    inr (f ∙ e, omega (arith, lin))

same_not : (P : Problem) (x : Vector) → NoWorse P x x
same_not P x = inr (refl, omega (arith, lin))

downhill_no_worse : (P : Problem) (n : ℕ) (z y : List ℤ) → Downhill P z n y → NoWorse P (places z) (places y)
downhill_no_worse P zero z y e = subst (λ (v : List ℤ). NoWorse P (places z) (places v)) e (same_not P (places z))
downhill_no_worse P (suc n) z y h =
    worse_not P (places z) (places (after z h.0)) (places y) h.1.0.1 (downhill_no_worse P n (after z h.0) y h.2)

downhill_inside : (P : Problem) (n : ℕ) (z y : List ℤ) → InBounds P z → Downhill P z n y → InBounds P y
downhill_inside P zero z y ins e = subst (λ (v : List ℤ). InBounds P v) e ins
downhill_inside P (suc n) z y ins h = downhill_inside P n (after z h.0) y (inside_after P z h.0 ins h.1.0.0) h.2

-- how a walk of at most b moves ends
abbrev Ends : Problem → ℕ → List ℤ → ℕ → End → Type 0
Ends P b y n Settled = first_move P y ≡ None
Ends P b y n Spent = ((m : Move) × (first_move P y ≡ Some m)) × (n ≡ b)

ends_more : (P : Problem) (b : ℕ) (y : List ℤ) (n : ℕ) (e : End) → Ends P b y n e → Ends P (suc b) y (n + 1) e
ends_more P b y n Settled h = h
ends_more P b y n Spent h = (h.0, omega (arith, h.1))

ends_now : (P : Problem) (z : List ℤ) (o : Option Move) → first_move P z ≡ o → Ends P 0 z 0 (cond (is_some o) Spent Settled)
ends_now P z None e = e
ends_now P z (Some m) e = ((m, e), refl)

abbrev Walks : Problem → ℕ → List ℤ → Ended → Type 0
Walks P b z w = Downhill P z w.moves w.point × (w.moves ≤ b) × Ends P b w.point w.moves w.end

walks_on : (P : Problem) (b : ℕ) (z : List ℤ) → ((y : List ℤ) → Walks P b y (walk_from P b y)) → (o : Option Move) → first_move P z ≡ o → Walks P (suc b) z (onward (walk_from P b) z o)
walks_on P b z ih None e = (refl, omega arith, e)
walks_on P b z ih (Some m) e =
    let w = walk_from P b (after z m) in
    let h = ih (after z m) in (
      subst (λ (n : ℕ). Downhill P z n w.point) (sym (add-one w.moves)) (m, found_first P z m e, h.0),
      omega (arith, h.1),
      ends_more P b w.point w.moves w.end h.2,
    )

walks : (P : Problem) (b : ℕ) (z : List ℤ) → Walks P b z (walk_from P b z)
unfolding walk_from
walks P zero z = (refl, omega arith, ends_now P z (first_move P z) refl)
walks P (suc b) z = walks_on P b z (walks P b) (first_move P z) refl

pub lawful : (P : Problem) (b : ℕ) (z y : List ℤ) (w : Walked) → InBounds P z → ended y w ≡ walk_from P b z → Lawful P b z y w
lawful P b z y w ins e =
    let all : Walks P b z (ended y w) = subst (λ (v : Ended). Walks P b z v) (sym e) (walks P b z) in
    record {
      descends = all.0;
      within_budget = all.1;
      from_bounds = ins;
      in_bounds = downhill_inside P w.moves z y ins all.0;
      no_worse = downhill_no_worse P w.moves z y all.0;
      settled = λ s. none_descends P y (subst (λ (v : End). Ends P b y w.moves v) s all.2);
      spent = λ s.
          let h = subst (λ (v : End). Ends P b y w.moves v) s all.2 in
          (h.1, (h.0.0, found_descends P y h.0.0 h.0.1));
    }
