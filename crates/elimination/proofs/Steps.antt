-- The steps of the loop over the columns.
use Rattle.std.proofs.Common.{◌≡◌, ℕ, suc, ◌+◌, ◌-◌, ◌<◌, ◌≤◌, Bool, true, false, cond, List, Some, None, Option, ap, ◌∙◌, sym, add-one, arith}
use lib.Ieee.{Float}
use Rattle.elimination.specs.Lines.{cleared_below, traded, takable, pivot_of, column_done, column_tried, Triangle, columns_done, lesser}

module _ (w k : ℕ) where
  pub tried_some : (p : ℕ) (s : Float) (ls ms : List (List Float)) → (p, s) ≡ pivot_of k ls → takable s ≡ true → ms ≡ cleared_below w k (traded k p ls) →
      ◌≡◌ {A = Option Float × List (List Float)} (Some s, ms) (column_tried w k ls)
  tried_some p s ls ms e t m = rw (← e, t, m)

  pub tried_none : (p : ℕ) (s : Float) (ls : List (List Float)) → (p, s) ≡ pivot_of k ls → takable s ≡ false → ◌≡◌ {A = Option Float × List (List Float)} (None, ls) (column_tried w k ls)
  tried_none p s ls e t = rw (← e, t)

-- what a column that was tried leaves to the others, at the answer of the test of its pivot
abbrev after : ℕ → ℕ → ℕ → Float → List (List Float) → Bool → Triangle
after w n k s ls b = cond b (columns_done w (n - (k + 1)) (k + 1) (lesser s (pivot_of k ls).1) (column_done w k ls)) (record { whole = false; least = s; lines = ls })

abbrev tried : ℕ → ℕ → List (List Float) → Bool → Option Float × List (List Float)
tried w k ls b = cond b (Some (pivot_of k ls).1, column_done w k ls) (None, ls)

module _ (w n k : ℕ) (s : Float) (ls : List (List Float)) where
  columns_more : k < n → columns_done w (n - k) k s ls ≡ after w n k s ls (takable (pivot_of k ls).1)
  columns_more h =
      let e : n - k ≡ suc (n - (k + 1)) = omega arith in
      rw (e, add-one)

  pub columns_all : n ≤ k → columns_done w (n - k) k s ls ≡ record { whole = true; least = s; lines = ls }
  columns_all h = let e : n - k ≡ 0 = omega arith in rw e

  pub columns_some : (t u : Float) (ms : List (List Float)) → k < n → ◌≡◌ {A = Option Float × List (List Float)} (Some t, ms) (column_tried w k ls) → u ≡ lesser s t →
      columns_done w (n - (k + 1)) (k + 1) u ms ≡ columns_done w (n - k) k s ls
  columns_some t u ms h e q = go (takable (pivot_of k ls).1) e ∙ sym (columns_more h)
    where
      go : (b : Bool) → ◌≡◌ {A = Option Float × List (List Float)} (Some t, ms) (tried w k ls b) → columns_done w (n - (k + 1)) (k + 1) u ms ≡ after w n k s ls b
      go true f =
          let g = ap (λ (p : Option Float × List (List Float)). p.0) f in
          let h = ap (λ (p : Option Float × List (List Float)). p.1) f in
          let a : t ≡ (pivot_of k ls).1 = cc in
          rw (q, a, h)
      go false f = let g = ap (λ (p : Option Float × List (List Float)). p.0) f in absurd (cc)

  pub columns_none : (ms : List (List Float)) → k < n → ◌≡◌ {A = Option Float × List (List Float)} (None, ms) (column_tried w k ls) →
      ◌≡◌ {A = Triangle} (record { whole = false; least = s; lines = ms }) (columns_done w (n - k) k s ls)
  columns_none ms h e = go (takable (pivot_of k ls).1) e ∙ sym (columns_more h)
    where
      go : (b : Bool) → ◌≡◌ {A = Option Float × List (List Float)} (None, ms) (tried w k ls b) → ◌≡◌ {A = Triangle} (record { whole = false; least = s; lines = ms }) (after w n k s ls b)
      go true f = let g = ap (λ (p : Option Float × List (List Float)). p.0) f in absurd (cc)
      go false f = let h = ap (λ (p : Option Float × List (List Float)). p.1) f in rw h
