-- The search down a column finds its pivot.
use Rattle.std.proofs.Common.{◌≡◌, not, ℕ, zero, suc, ◌+◌, ◌-◌, ◌<◌, ◌≤◌, Bool, true, false, cond, ◌&&◌, ◌⊎◌, inl, inr, T, List, length, drop, sym, refl, subst, ⊎_elim, arith}
use lib.Ieee.{Float, lt, le}
use Rattle.std.specs.Float.{◌<ᶠ◌, ◌≤ᶠ◌}
use Rattle.std.proofs.lemmas.Float.{lt_trans, lt_irrefl, le_of_lt, lt_of_lt_of_le, lt_of_le_of_lt, le_of_not-lt, le_right, T_from_true}
use Rattle.std.proofs.lemmas.Bool.{cases_lt}
use Rattle.std.proofs.lemmas.List.{drop_all}
use Rattle.elimination.specs.Lines.{at, none, smallest, largest, pick, pivot_of, takable}
use Rattle.elimination.specs.Runs.{line_at, size_at, Takable, Takes, HasNone}
use Rattle.elimination.specs.declared.pivots.Pivot.{Pivot}
use Rattle.elimination.proofs.Lines.{pick_more}

-- a test that failed
pub not_lt : (x y : Float) → lt x y ≡ false → ¬ (x <ᶠ y)
not_lt x y e h = let P : Bool → Type 0 = T in subst P e h

-- a place below i + 1
split : {A : Type 0} (j i : ℕ) → j < i + 1 → (j < i → A) → (j ≡ i → A) → A
split j i l f g = ⊎_elim f (λ h. g (omega arith)) (cases_lt j i)

-- what is known of the largest size so far, once the lines from k to before i are read
record Best (ls : List (List Float)) (k i p : ℕ) (s : Float) : Type 0 where
  number : none ≤ᶠ s
  large : (j : ℕ) → k ≤ j → j < i → ¬ (s <ᶠ size_at ls k j)
  found : ((p ≡ k) × (s ≡ none)) ⊎ ((k ≤ p) × (p < i) × (s ≡ size_at ls k p) × ((j : ℕ) → k ≤ j → j < p → ¬ (s ≤ᶠ size_at ls k j)))

best_first : (ls : List (List Float)) (k : ℕ) → Best ls k k k none
unfolding le
best_first ls k = record { number = tt; large = λ j a b. absurd (omega arith); found = inl (refl, refl) }

best_larger : (ls : List (List Float)) (k i p : ℕ) (s : Float) → k ≤ i → Best ls k i p s → s <ᶠ size_at ls k i → Best ls k (i + 1) i (size_at ls k i)
best_larger ls k i p s l b h =
    let x = size_at ls k i in
    let q = b.large in
    record {
      number = le_of_lt none x (lt_of_le_of_lt none s x b.number h);
      large = λ j a c. split j i c (λ d e. q j a d (lt_trans s x (size_at ls k j) h e)) (λ d e. lt_irrefl x (let P : ℕ → Type 0 = λ m. x <ᶠ size_at ls k m in subst P d e));
      found = inr (l, omega arith, refl, λ j a d e. q j a d (lt_of_lt_of_le s x (size_at ls k j) h e));
    }

best_kept : (ls : List (List Float)) (k i p : ℕ) (s : Float) → k ≤ i → Best ls k i p s → ¬ (s <ᶠ size_at ls k i) → Best ls k (i + 1) p s
best_kept ls k i p s l b h =
    let q = b.large in
    record {
      number = b.number;
      large = λ j a c. split j i c (q j a) (λ d e. h (let P : ℕ → Type 0 = λ m. s <ᶠ size_at ls k m in subst P d e));
      found = ⊎_elim (λ f. inl f) (λ f. inr (f.0, omega (arith, f.1), f.2, f.3)) b.found;
    }

abbrev Ended : ℕ → List (List Float) → ℕ × Float → Type 0
Ended k ls q = Best ls k (length ls) q.0 q.1

best_down : (m k i p : ℕ) (s : Float) (ls : List (List Float)) → i + m ≡ length ls → k ≤ i → Best ls k i p s → Ended k ls (pick k i p s (drop i ls))
best_down zero k i p s ls e l b =
    let n : i ≡ length ls = omega arith in
    let d = drop_all i ls (omega arith) in
    let P : ℕ → Type 0 = λ j. Best ls k j p s in
    rw d (subst P n b)
best_down (suc m) k i p s ls e l b =
    let x = size_at ls k i in
    let P : ℕ × Float → Type 0 = Ended k ls in
    subst P (sym (pick_more k i p s ls (at (line_at ls i) k) (omega arith) refl))
    (go (lt s x) refl (λ h. best_down m k (i + 1) i x ls (omega arith) (omega arith) (best_larger ls k i p s l b h))
    (λ h. best_down m k (i + 1) p s ls (omega arith) (omega arith) (best_kept ls k i p s l b h)))
  where
    go : (b : Bool) → lt s (size_at ls k i) ≡ b → (s <ᶠ size_at ls k i → Ended k ls (pick k (i + 1) i (size_at ls k i) (drop (i + 1) ls))) →
        (¬ (s <ᶠ size_at ls k i) → Ended k ls (pick k (i + 1) p s (drop (i + 1) ls))) →
        Ended k ls (pick k (i + 1) (cond b i p) (cond b (size_at ls k i) s) (drop (i + 1) ls))
    go true e f g = f (T_from_true _ e)
    go false e f g = g (not_lt s (size_at ls k i) e)

best_of : (k : ℕ) (ls : List (List Float)) → k ≤ length ls → Ended k ls (pivot_of k ls)
best_of k ls l = best_down (length ls - k) k k k none ls (omega arith) (omega arith) (best_first ls k)

both : (a b : Bool) → (a && b) ≡ true → T a × T b
both true true e = (tt, tt)
both true false e = absurd (cc)
both false b e = absurd (cc)

neither : (a b : Bool) → (a && b) ≡ false → ¬ (T a × T b)
neither true true e h = absurd (cc)
neither true false e h = h.1
neither false b e h = h.0

-- a pivot that can be taken is the first of the largest
pub pivot_taken : (k : ℕ) (ls : List (List Float)) (p : Pivot) → k ≤ length ls → (p.place, p.size) ≡ pivot_of k ls → takable p.size ≡ true → Takes ls k p
unfolding lt
pivot_taken k ls p l e t =
    let P : ℕ × Float → Type 0 = Ended k ls in
    let b : Best ls k (length ls) p.place p.size = subst P (sym e) (best_of k ls l) in
    let h : Takable p.size = both (lt smallest p.size) (lt p.size largest) t in
    ⊎_elim
    (λ f. absurd (let Q : Float → Type 0 = λ x. smallest <ᶠ x in subst Q f.1 h.0))
    (λ f.
    let e = f.2 in
    record {
      place = record {
        below = f.0;
        within = f.1;
        largest = λ j a c. (let Q : Float → Type 0 = λ x. ¬ (x <ᶠ size_at ls k j) in subst Q f.2 (b.large j a c));
        first = λ j a c. (let Q : Float → Type 0 = λ x. ¬ (x ≤ᶠ size_at ls k j) in subst Q f.2 (f.3 j a c));
      };
      size = f.2;
      takable = h;
    })
    b.found

pub no_more : (b : Bool) → ¬ (T b) → T (not b)
no_more true h = absurd (h tt)
no_more false h = tt

none_below : none <ᶠ largest
unfolding lt
none_below = tt

-- where the largest cannot be taken, no pivot can
pub pivot_none : (k : ℕ) (ls : List (List Float)) (p : ℕ) (s : Float) → k ≤ length ls → (p, s) ≡ pivot_of k ls → takable s ≡ false → HasNone ls k
pivot_none k ls p s l e t i g h =
    let P : ℕ × Float → Type 0 = Ended k ls in
    let b : Best ls k (length ls) p s = subst P (sym e) (best_of k ls l) in
    let x = size_at ls k i in
    let ns = le_right none s b.number in
    let nx = le_right smallest x (le_of_lt smallest x h.0) in
    let under : x ≤ᶠ s = le_of_not-lt s x ns nx (no_more (lt s x) (b.large i g.below g.within)) in
    let Q : Float → Type 0 = λ y. y <ᶠ largest in
    let R : Float → Type 0 = λ y. ¬ (x <ᶠ y) in
    neither (lt smallest s) (lt s largest) t (
      lt_of_lt_of_le smallest x s h.0 under,
      ⊎_elim (λ f. subst Q (sym f.1) none_below)
          (λ f. lt_of_le_of_lt s x largest (le_of_not-lt x s nx ns (no_more (lt x s) (subst R (sym f.2) (g.largest p f.0 f.1)))) h.1) b.found,
    )
