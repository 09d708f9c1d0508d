-- The smallest of pivots that are taken in several eliminations, and how it is told.
use Rattle.std.proofs.Common.{◌≡◌, ℕ, zero, suc, Bool, true, false, T, List, [], ◌∷◌, ◌++◌, ◌⊎◌, inl, inr, sym, refl, ap, ◌∙◌, subst, ⊎_elim, arith}
use lib.Ieee.{Float, lt, is_nan}
use Rattle.std.specs.List.{All, Contains}
use Rattle.std.specs.Float.{◌<ᶠ◌, NotNan}
use Rattle.std.proofs.lemmas.List.Elements.{Contains-append_left, Contains-append_right, All-append, All-contains}
use Rattle.std.proofs.lemmas.Float.{le_of_lt, le_of_not-lt, le_left, le_right, lt_of_lt_of_le, lt_irrefl, T_from_false}
use Rattle.elimination.specs.Lines.{largest}
use Rattle.elimination.specs.Runs.{Lead, Least, Takable, sizes}
use Rattle.elimination.specs.declared.pivots.Pivot.{Pivot}
use Rattle.exchange.specs.Laws.{Told}
use Rattle.exchange.specs.Runs.{reported}

true_or_not : (b : Bool) → ¬ (T b) → b ≡ false
true_or_not true h = absurd (h tt)
true_or_not false h = refl

true_from : (b : Bool) → T b → b ≡ true
true_from true h = refl
true_from false h = absurd h

pub lead_takable : (w k : ℕ) (ps : List Pivot) (ls ms : List (List Float)) → Lead w k ps ls ms → All Takable (sizes ps)
lead_takable w k [] ls ms h i d l = absurd (omega arith)
lead_takable w k (p ∷ ps) ls ms h zero d l = h.0.takable
lead_takable w k (p ∷ ps) ls ms h (suc i) d l = lead_takable w (suc k) ps h.1.0 ms h.1.1.1 i d (omega arith)

takable_number : (x : Float) → Takable x → NotNan x
takable_number x h = le_left x largest (le_of_lt x largest h.1)

-- what is not above t, which is not above u, is not above u
not_above : (x t u : Float) → NotNan t → ¬ (x <ᶠ t) → ¬ (t <ᶠ u) → ¬ (x <ᶠ u)
not_above x t u n f g h = f (lt_of_lt_of_le x u t h (le_of_not-lt t u n (le_right x u (le_of_lt x u h)) (T_from_false _ (true_or_not (lt t u) g))))

-- the least of s and some pivots
module _ (s : Float) (ps : List Float) (t : Float) (h : Least (s ∷ ps) t) (a : All Takable ps) where
  pub least_cases : (t ≡ s) ⊎ Contains ps t
  least_cases = of h.among
    where
      of : Contains (s ∷ ps) t → (t ≡ s) ⊎ Contains ps t
      of (zero, l, e) = inl (sym e)
      of (suc k, l, e) = inr (k, omega arith, e)

  pub least_number : NotNan s → NotNan t
  least_number n = ⊎_elim (λ e. subst NotNan (sym e) n) (λ c. takable_number t (All-contains Takable ps t a c)) least_cases

  -- and with some more
  pub least_on : (qs : List Float) (u : Float) → NotNan s → Least (t ∷ qs) u → Least (s ∷ (ps ++ qs)) u
  least_on qs u n g =
      let b : All (λ x. ¬ (x <ᶠ u)) (s ∷ ps) = λ k d l. not_above _ t u (least_number n) (h.least k d l) (g.least 0 d (omega arith)) in
      record {
        among = last_of g.among;
        least = All-append (λ x. ¬ (x <ᶠ u)) (s ∷ ps) qs b (λ k d l. g.least (suc k) d (omega arith));
      }
    where
      last_of : Contains (t ∷ qs) u → Contains (s ∷ (ps ++ qs)) u
      last_of (zero, l, e) = let C : Float → Type 0 = Contains (s ∷ (ps ++ qs)) in subst C e (Contains-append_left (s ∷ ps) qs t h.among)
      last_of (suc k, l, e) = Contains-append_right (s ∷ ps) qs u (k, omega arith, e)

pub least_alone : (s : Float) → Least (s ∷ []) s
least_alone s = record { among = (0, omega arith, refl); least = only }
  where
    only : All (λ x. ¬ (x <ᶠ s)) (s ∷ [])
    only zero d l = lt_irrefl s
    only (suc k) d l = absurd (omega arith)

-- how the least of the largest size and some pivots is told
pub told : (ps : List Float) (t : Float) → Least (largest ∷ ps) t → All Takable ps → Told ps (reported t)
unfolding lt
told [] t h a = ⊎_elim (λ e. let f : lt t largest ≡ false = ap (λ x. lt x largest) e in rw f) (λ c. absurd (omega (arith, c.1))) (least_cases largest [] t h a)
told (p ∷ ps) t h a =
    ⊎_elim
    (λ e. absurd (let q = a 0 t (omega arith) in let P : Float → Type 0 = λ x. p <ᶠ x in h.least 1 t (omega arith) (subst P (sym e) q.1)))
    (λ c. let k = All-contains Takable (p ∷ ps) t a c in let f : lt t largest ≡ true = true_from (lt t largest) k.1 in rw f (record { among = c; least = λ i d l. h.least (suc i) d (omega arith) }, k))
    (least_cases largest (p ∷ ps) t h a)

-- two that are told of the same pivots are as large
pub told_same : (ps : List Float) (x y : Float) → Told ps x → Told ps y → ¬ (x <ᶠ y)
told_same [] x y f g h = lt_irrefl x (let P : Float → Type 0 = λ z. x <ᶠ z in subst P (g ∙ sym f) h)
told_same (p ∷ ps) x y f g h = All-contains (λ z. ¬ (z <ᶠ y)) (p ∷ ps) x g.0.least f.0.among h

pub largest_number : NotNan largest
unfolding is_nan
largest_number = tt
