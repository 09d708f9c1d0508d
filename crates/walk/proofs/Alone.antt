-- The law fixes the walk: two that keep to it from the same point, with the same budget, end alike.
use Rattle.std.proofs.Common.{◌≡◌, ℕ, zero, suc, ◌+◌, ◌≤◌, ◌⊎◌, List, ℤ, sym, refl, ap, ◌∙◌, subst, ⊎_elim, arith}
use Rattle.duality.specs.Problem.{Problem}
use Rattle.walk.specs.Laws.{Descent, FirstDescent, Downhill, Lawful, Alone}
use Rattle.walk.specs.Moves.{after}
use Rattle.walk.specs.Order.{Before}
use Rattle.walk.specs.declared.moves.Move.{Move}
use Rattle.walk.specs.declared.ends.Walked.{Walked}
use Rattle.walk.specs.declared.ends.End.{End}
use Rattle.walk.specs.declared.ends.End.TheVariants.{Settled, Spent}
use Rattle.walk.proofs.Sorting.{before_or}

module _ (P : Problem) (budget : ℕ) where
  first_alone : (z : List ℤ) (m k : Move) → FirstDescent P z m → FirstDescent P z k → m ≡ k
  first_alone z m k f g =
      ⊎_elim
      (λ (e : m ≡ k). e)
      (λ (b : Before m k ⊎ Before k m). absurd (⊎_elim (λ (c : Before m k). g.1 m c f.0) (λ (c : Before k m). f.1 k c g.0) b))
      (before_or m k)

  -- how a walk that made so many moves before ends
  abbrev Stops : ℕ → List ℤ → End → Type 0
  Stops n y Settled = (m : Move) → Descent P y m → ⊥
  Stops n y Spent = (n ≡ budget) × ((m : Move) × Descent P y m)

  stops : (n : ℕ) (y : List ℤ) (e : End) → (e ≡ Settled → (m : Move) → Descent P y m → ⊥) → (e ≡ Spent → (n ≡ budget) × ((m : Move) × Descent P y m)) → Stops n y e
  stops n y Settled s t = s refl
  stops n y Spent s t = t refl

  -- no move follows an end
  no_more : (e : End) (n i : ℕ) (y x : List ℤ) → Stops n y e → Downhill P y (suc i) x → n + suc i ≤ budget → ⊥
  no_more Settled n i y x s d l = s d.0 d.1.0
  no_more Spent n i y x s d l = let e = s.0 in omega arith

  same_end : (n : ℕ) (y : List ℤ) (e f : End) → Stops n y e → Stops n y f → e ≡ f
  same_end n y Settled Settled s t = refl
  same_end n y Spent Spent s t = refl
  same_end n y Settled Spent s t = absurd (s t.1.0 t.1.1)
  same_end n y Spent Settled s t = absurd (t s.1.0 s.1.1)

  -- two ways on from z after n moves, by i and by k moves
  same : (n : ℕ) (z : List ℤ) (i k : ℕ) (y x : List ℤ) (e f : End) → Downhill P z i y → Downhill P z k x → Stops (n + i) y e → Stops (n + k) x f →
      n + i ≤ budget → n + k ≤ budget → (y ≡ x) × (i ≡ k) × (e ≡ f)
  same n z zero zero y x e f d c s t l m =
      let q : y ≡ x = sym d ∙ c in
      (q, refl, same_end (n + 0) x e f (subst (λ (v : List ℤ). Stops (n + 0) v e) q s) t)
  same n z zero (suc k) y x e f d c s t l m =
      absurd (no_more e (n + 0) k y x s (subst (λ (v : List ℤ). Downhill P v (suc k) x) d c) (omega arith))
  same n z (suc i) zero y x e f d c s t l m =
      absurd (no_more f (n + 0) i x y t (subst (λ (v : List ℤ). Downhill P v (suc i) y) c d) (omega arith))
  same n z (suc i) (suc k) y x e f d c s t l m =
      let q = first_alone z d.0 c.0 d.1 c.1 in
      let p : n + suc i ≡ suc n + i = omega arith in
      let r : n + suc k ≡ suc n + k = omega arith in
      let h =
      same (suc n) (after z c.0) i k y x e f (subst (λ (v : Move). Downhill P (after z v) i y) q d.2) c.2 (subst (λ (v : ℕ). Stops v y e) p s)
      (subst (λ (v : ℕ). Stops v x f) r t) (omega arith) (omega arith) in
      (h.0, ap suc h.1, h.2)

  pub alone : (z y : List ℤ) (w : Walked) → Lawful P budget z y w → Alone P budget z y w
  alone z y w l y' w' l' =
      let h =
      same 0 z w'.moves w.moves y' y w'.end w.end l'.descends l.descends (here w'.moves (λ n. Stops n y' w'.end) (stops w'.moves y' w'.end l'.settled l'.spent))
      (here w.moves (λ n. Stops n y w.end) (stops w.moves y w.end l.settled l.spent)) (omega (arith, l'.within_budget)) (omega (arith, l.within_budget)) in
      (h.0, ap (λ (n : ℕ). record { moves = n; end = w'.end }) h.1 ∙ ap (λ (e : End). record { moves = w.moves; end = e }) h.2)
    where
      here : (n : ℕ) (Q : ℕ → Type 0) → Q n → Q (0 + n)
      here n Q q = let e : n ≡ 0 + n = omega arith in subst Q e q
