-- The loop over the columns leads from the lines to the triangle.
use Rattle.std.proofs.Common.{◌≡◌, not, ℕ, zero, suc, ◌+◌, ◌<◌, Bool, true, false, cond, T, List, [], ◌∷◌, length, get_or, sym, refl, ◌∙◌, subst, add-zero, arith}
use lib.Ieee.{Float, lt, is_nan}
use Rattle.std.specs.List.{All, Contains}
use Rattle.std.specs.Float.{◌<ᶠ◌, NotNan}
use Rattle.std.proofs.lemmas.Float.{lt_trans, lt_irrefl, lt_of_lt_of_le, le_of_lt, le_right, le_of_not-lt, T_from_true, T_from_false}
use Rattle.elimination.specs.Lines.{pivot_of, takable, column_done, lesser, Triangle, columns_done}
use Rattle.elimination.specs.Runs.{Takes, HasNone, Clears, Lead, sizes, Least}
use Rattle.elimination.specs.declared.pivots.Pivot.{Pivot}
use Rattle.elimination.proofs.Clearing.{AllLong, clears, still_long}
use Rattle.elimination.proofs.Search.{not_lt, no_more, pivot_taken, pivot_none}

not_both : (b : Bool) → T b → T (not b) → ⊥
not_both true f g = g
not_both false f g = f

-- one pivot more before the others. What is no number stays the least.
pub record Least_so (s : Float) (ps : List Pivot) (t : Float) : Type 0 where
  pub is : Least (s ∷ sizes ps) t
  pub stays : T (is_nan s) → t ≡ s

least_none : (s : Float) → Least_so s [] s
least_none s = record { is = record { among = (0, omega arith, refl); least = none }; stays = λ h. refl }
  where
    none : All (λ x. ¬ (x <ᶠ s)) (s ∷ [])
    none zero d l = lt_irrefl s
    none (suc k) d l = absurd (omega arith)

module _ (s u t : Float) (xs : List Float) where
  among_more : (b : Bool) → Contains (cond b u s ∷ xs) t → Contains (s ∷ u ∷ xs) t
  among_more true (k, l, e) = (suc k, omega arith, e)
  among_more false (zero, l, e) = (0, omega arith, e)
  among_more false (suc k, l, e) = (suc (suc k), omega arith, e)

  least_two : ¬ (s <ᶠ t) → ¬ (u <ᶠ t) → ((k : ℕ) (d : Float) → k < length xs → ¬ (get_or xs k d <ᶠ t)) → All (λ x. ¬ (x <ᶠ t)) (s ∷ u ∷ xs)
  least_two f g h zero d l = f
  least_two f g h (suc zero) d l = g
  least_two f g h (suc (suc k)) d l = h k d (omega arith)

  -- where u is not below s, it is not below the least of s and others
  over : ¬ (u <ᶠ s) → ¬ (s <ᶠ t) → (T (is_nan s) → t ≡ s) → (b : Bool) → is_nan s ≡ b → ¬ (u <ᶠ t)
  over f g h true e a = let P : Float → Type 0 = λ x. u <ᶠ x in f (subst P (h (T_from_true _ e)) a)
  over f g h false e a = f (lt_of_lt_of_le u t s a (le_of_not-lt s t (T_from_false _ e) (le_right u t (le_of_lt u t a)) (no_more (lt s t) g)))

least_more : (s : Float) (p : Pivot) (ps : List Pivot) (t : Float) → Least_so (lesser s p.size) ps t → Least_so s (p ∷ ps) t
least_more s p ps t h = go (lt p.size s) refl h
  where
    go : (b : Bool) → lt p.size s ≡ b → Least_so (cond b p.size s) ps t → Least_so s (p ∷ ps) t
    go true e h =
        let a : p.size <ᶠ s = T_from_true _ e in
        let q = h.is.least in
        let ns : NotNan s = le_right p.size s (le_of_lt p.size s a) in
        record {
          is = record {
            among = among_more s p.size t (sizes ps) true h.is.among;
            least = least_two s p.size t (sizes ps) (λ b. q 0 t (omega arith) (lt_trans p.size s t a b)) (q 0 t (omega arith)) (λ k d l. q (suc k) d (omega arith));
          };
          stays = λ b. absurd (not_both (is_nan s) b ns);
        }
    go false e h =
        let q = h.is.least in
        record {
          is = record {
            among = among_more s p.size t (sizes ps) false h.is.among;
            least = least_two s p.size t (sizes ps) (q 0 t (omega arith)) (over s p.size t (sizes ps) (not_lt p.size s e) (q 0 t (omega arith)) h.stays (is_nan s) refl) (λ k d l. q (suc k) d (omega arith));
          };
          stays = h.stays;
        }

-- columns from k on of n lines, and what is known once as many as may be are done
pub record Led (w n k : ℕ) (s : Float) (ls : List (List Float)) (t : Triangle) : Type 0 where
  pub pivots : List Pivot
  pub leads : Lead w k pivots ls t.lines
  pub least : Least_so s pivots t.least
  pub whole : t.whole ≡ true → k + length pivots ≡ n
  pub stuck : t.whole ≡ false → (k + length pivots < n) × HasNone t.lines (k + length pivots)

none_there : (k n : ℕ) (ls : List (List Float)) → HasNone ls (suc k + n) → HasNone ls (k + suc n)
none_there k n ls h = let e : suc k + n ≡ k + suc n = omega arith in let P : ℕ → Type 0 = HasNone ls in subst P e h

pub led : (w n m k : ℕ) (s : Float) (ls : List (List Float)) → n < w → k + m ≡ n → length ls ≡ n → AllLong w ls → Led w n k s ls (columns_done w m k s ls)
led w n zero k s ls lw e l g =
    record { pivots = []; leads = refl; least = least_none s; whole = λ h. omega arith; stuck = λ h. absurd (cc) }
led w n (suc m) k s ls lw e l g =
    go (takable p.size) refl (led w n m (suc k) (lesser s p.size) (column_done w k ls) lw (omega arith))
  where
    p : Pivot
    p = record { place = (pivot_of k ls).0; size = (pivot_of k ls).1 }

    go : (b : Bool) → takable p.size ≡ b → (length (column_done w k ls) ≡ n → AllLong w (column_done w k ls) → Led w n (suc k) (lesser s p.size) (column_done w k ls) (columns_done w m (suc k) (lesser s p.size) (column_done w k ls))) →
        Led w n k s ls (cond b (columns_done w m (suc k) (lesser s p.size) (column_done w k ls)) (record { whole = false; least = s; lines = ls }))
    go true f h =
        let a : Takes ls k p = pivot_taken k ls p (omega arith) refl f in
        let c : Clears w k p.place ls (column_done w k ls) = clears w k p.place ls (omega arith) a.place.below a.place.within g in
        let r = h (c.long ∙ l) (still_long w k p.place ls (column_done w k ls) (omega arith) a.place.within g c) in
        record {
          pivots = p ∷ r.pivots;
          leads = (a, (column_done w k ls, (c, r.leads)));
          least = least_more s p r.pivots (columns_done w m (suc k) (lesser s p.size) (column_done w k ls)).least r.least;
          whole = λ q. omega (arith, r.whole q);
          stuck = λ q. let x = r.stuck q in (omega (arith, x.0), none_there k (length r.pivots) (columns_done w m (suc k) (lesser s p.size) (column_done w k ls)).lines x.1);
        }
    go false f h =
        record {
          pivots = [];
          leads = refl;
          least = least_none s;
          whole = λ q. absurd (cc);
          stuck = λ q. (omega arith, let P : ℕ → Type 0 = HasNone ls in subst P (sym (add-zero k)) (pivot_none k ls p.place p.size (omega arith) refl f));
        }
