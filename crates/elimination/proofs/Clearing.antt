-- A column cleared, place by place and line by line.
use Rattle.std.proofs.Common.{◌≡◌, ◌≢◌, ℕ, zero, suc, ◌+◌, ◌-◌, ◌<◌, ◌≤◌, List, [], ◌∷◌, ◌++◌, map, length, take, drop, set, sym, refl, ap, ◌∙◌, subst, ⊎_elim, arith}
use native.Mathlib.Nat.{sub-zero}
use Rattle.std.proofs.lemmas.Bool.{cases_lt}
use lib.Ieee.{Float, nan, binary64, div}
use Rattle.std.proofs.lemmas.List.{take_all, get_or-drop, get_or-take, length-drop, length-take-le, length-set, length-append, length-map, get_or_append_left, get_or-append_right, get_or-map, get_or-set_same, get_or-set_other}
use Rattle.elimination.specs.Lines.{at, lose, less, cleared, cleared_below, traded}
use Rattle.elimination.specs.Runs.{line_at, ClearedBy, Clears}
use Rattle.elimination.proofs.Lines.{length_cleared}

less_at : (f : Float) (xs ys : List Float) (i : ℕ) → i < length xs → i < length ys → at (less f xs ys) i ≡ lose f (at xs i) (at ys i)
less_at f [] ys i h k = absurd (omega arith)
less_at f (x ∷ xs) [] i h k = absurd (omega arith)
less_at f (x ∷ xs) (y ∷ ys) zero h k = refl
less_at f (x ∷ xs) (y ∷ ys) (suc i) h k = less_at f xs ys i (omega arith) (omega arith)

less_past : (f : Float) (xs ys : List Float) (i : ℕ) → length ys ≤ i → at (less f xs ys) i ≡ at xs i
less_past f [] ys i h = refl
less_past f (x ∷ xs) [] i h = refl
less_past f (x ∷ xs) (y ∷ ys) zero h = absurd (omega arith)
less_past f (x ∷ xs) (y ∷ ys) (suc i) h = less_past f xs ys i (omega arith)

-- the places of a line before place a, which stay, and those from it on
module _ (f : Float) (ys : List Float) where
  at_front : (a : ℕ) (xs : List Float) (c : ℕ) → c < a → at (take a xs ++ less f (drop a xs) ys) c ≡ at xs c
  at_front zero xs c h = absurd (omega arith)
  at_front (suc a) [] c h = refl
  at_front (suc a) (x ∷ xs) zero h = refl
  at_front (suc a) (x ∷ xs) (suc c) h = at_front a xs c (omega arith)

  at_back : (a : ℕ) (xs : List Float) (c : ℕ) → a ≤ c → at (take a xs ++ less f (drop a xs) ys) c ≡ at (less f (drop a xs) ys) (c - a)
  at_back zero xs c h = rw sub-zero
  at_back (suc a) [] c h = refl
  at_back (suc a) (x ∷ xs) zero h = absurd (omega arith)
  at_back (suc a) (x ∷ xs) (suc c) h = let e : suc c - suc a ≡ c - a = omega arith in rw e (at_back a xs c (omega arith))

-- what stands at place c, counted from place a
at_drop : (a c : ℕ) (xs : List Float) → a ≤ c → at (drop a xs) (c - a) ≡ at xs c
at_drop a c xs h = let e : a + (c - a) ≡ c = omega arith in get_or-drop a xs (c - a) nan ∙ ap (at xs) e

pub cleared_by : (w k : ℕ) (ps xs : List Float) → k < w → w ≤ length ps → ClearedBy w k ps xs (cleared k (take w ps) xs)
cleared_by w k ps xs h l =
    let q = take w ps in
    let f = div binary64 (at xs k) (at q k) in
    let e : at q k ≡ at ps k = get_or-take w ps k nan h in
    let m : length q ≡ w = length-take-le w ps l in
    let n = length-drop (k + 1) xs in
    let o = length-drop (k + 1) q in
    record {
      long = length_cleared k q xs;
      loses = λ c a b d.
          at_back f (drop (k + 1) q) (k + 1) xs c (omega arith)
          ∙ less_at f (drop (k + 1) xs) (drop (k + 1) q) (c - (k + 1)) (omega arith) (omega arith)
          ∙ ap (λ z. lose f z (at (drop (k + 1) q) (c - (k + 1)))) (at_drop (k + 1) c xs (omega arith))
          ∙ ap (λ z. lose f (at xs c) z) (at_drop (k + 1) c q (omega arith) ∙ get_or-take w ps c nan b)
          ∙ ap (λ z. lose (div binary64 (at xs k) z) (at xs c) (at ps c)) e;
      stays = λ c. ⊎_elim (λ a. at_front f (drop (k + 1) q) (k + 1) xs c (omega arith))
          (λ a. at_back f (drop (k + 1) q) (k + 1) xs c (omega arith) ∙ less_past f (drop (k + 1) xs) (drop (k + 1) q) (c - (k + 1)) (omega arith) ∙ at_drop (k + 1) c xs (omega arith));
    }

pub cleared_whole : (k : ℕ) (ps xs : List Float) → k < length ps → ClearedBy (length ps) k ps xs (cleared k ps xs)
cleared_whole k ps xs h =
    let P : List Float → Type 0 = λ q. ClearedBy (length ps) k ps xs (cleared k q xs) in
    subst P (take_all (length ps) ps (omega arith)) (cleared_by (length ps) k ps xs h (omega arith))

-- lines after a trade
module _ (k p : ℕ) (ls : List (List Float)) (h : k < length ls) (l : p < length ls) where
  long_traded : length (traded k p ls) ≡ length ls
  long_traded = length-set (set ls k (line_at ls p)) p (line_at ls k) ∙ length-set ls k (line_at ls p)

  traded_there : line_at (traded k p ls) p ≡ line_at ls k
  traded_there = get_or-set_same (set ls k (line_at ls p)) p (line_at ls k) [] (omega (arith, length-set ls k (line_at ls p)))

  traded_other : (i : ℕ) → i ≢ k → i ≢ p → line_at (traded k p ls) i ≡ line_at ls i
  traded_other i a b = get_or-set_other (set ls k (line_at ls p)) p i (line_at ls k) [] b ∙ get_or-set_other ls k i (line_at ls p) [] a

  traded_here : k ≤ p → line_at (traded k p ls) k ≡ line_at ls p
  traded_here a =
      let s = get_or-set_same ls k (line_at ls p) [] h in
      ⊎_elim
      (λ b. let ne : k ≢ p = omega arith in get_or-set_other (set ls k (line_at ls p)) p k (line_at ls k) [] ne ∙ s)
      (λ b. let e : k ≡ p = omega arith in let P : ℕ → Type 0 = λ i. line_at (traded k p ls) i ≡ line_at ls p in subst P (sym e) (traded_there ∙ ap (line_at ls) e))
      (cases_lt k p)

module _ (w k : ℕ) (vs : List (List Float)) (h : k < length vs) where
  long_below : length (cleared_below w k vs) ≡ length vs
  long_below =
      let g = cleared k (take w (line_at vs k)) in
      let t = length-take-le (k + 1) vs (omega arith) in
      length-append (take (k + 1) vs) (map g (drop (k + 1) vs)) ∙ (let d = length-map (drop (k + 1) vs) g in let e = length-drop (k + 1) vs in omega arith)

  below_front : (i : ℕ) → i ≤ k → line_at (cleared_below w k vs) i ≡ line_at vs i
  below_front i l =
      let t = length-take-le (k + 1) vs (omega arith) in
      get_or_append_left (take (k + 1) vs) (map (cleared k (take w (line_at vs k))) (drop (k + 1) vs)) [] i (omega arith) ∙ get_or-take (k + 1) vs i [] (omega arith)

  below_back : (i : ℕ) → k < i → i < length vs → line_at (cleared_below w k vs) i ≡ cleared k (take w (line_at vs k)) (line_at vs i)
  below_back i l m =
      let g = cleared k (take w (line_at vs k)) in
      let t = length-take-le (k + 1) vs (omega arith) in
      let d = length-drop (k + 1) vs in
      let e : k + 1 + (i - (k + 1)) ≡ i = omega arith in
      get_or-append_right (take (k + 1) vs) (map g (drop (k + 1) vs)) (k + 1) i [] t (omega arith)
      ∙ get_or-map g (drop (k + 1) vs) (i - (k + 1)) [] [] (omega arith)
      ∙ ap g (get_or-drop (k + 1) vs (i - (k + 1)) [] ∙ ap (line_at vs) e)

-- each line has w places at least
abbrev pub AllLong : ℕ → List (List Float) → Type 0
AllLong w ls = (i : ℕ) → i < length ls → w ≤ length (line_at ls i)

pub still_long : (w k p : ℕ) (ls ms : List (List Float)) → k < length ls → p < length ls → AllLong w ls → Clears w k p ls ms → AllLong w ms
still_long w k p ls ms h b g c i l =
    let n = c.long in
    ⊎_elim
    (λ a. omega (arith, ap length (c.above i a), g i (omega arith)))
    (λ a. ⊎_elim
    (λ d. ⊎_elim
    (λ e. omega (arith, (c.below i d (omega arith) (λ f. omega arith)).long, g i (omega arith)))
    (λ e. ⊎_elim
    (λ f. omega (arith, (c.below i d (omega arith) (λ o. omega arith)).long, g i (omega arith)))
    (λ f. let q : i ≡ p = omega arith in let Q : ℕ → Type 0 = λ m. w ≤ length (line_at ms m) in subst Q (sym q) (omega (arith, (c.traded (omega arith)).long, g k h)))
    (cases_lt p i))
    (cases_lt i p))
    (λ d. let q : i ≡ k = omega arith in let Q : ℕ → Type 0 = λ m. w ≤ length (line_at ms m) in subst Q (sym q) (omega (arith, ap length c.pivot, g p b)))
    (cases_lt k i))
    (cases_lt i k)

pub clears : (w k p : ℕ) (ls : List (List Float)) → k < w → k ≤ p → p < length ls → AllLong w ls → Clears w k p ls (cleared_below w k (traded k p ls))
clears w k p ls h a b g =
    let lk : k < length ls = omega arith in
    let vs = traded k p ls in
    let n = long_traded k p ls lk b in
    let pl = traded_here k p ls lk b a in
    let by = λ (i : ℕ) (xs : List Float) (c : k < i) (d : i < length ls) (e : line_at vs i ≡ xs).
    (let C : List Float → Type 0 = ClearedBy w k (line_at ls p) xs in
    subst C (sym (below_back w k vs (omega arith) i c (omega arith) ∙ ap (λ z. cleared k (take w z) (line_at vs i)) pl ∙ ap (cleared k (take w (line_at ls p))) e)) (cleared_by w k (line_at ls p) xs h (g p b))) in
    record {
      long = long_below w k vs (omega arith) ∙ n;
      above = λ i l. let nk : i ≢ k = omega arith in let nq : i ≢ p = omega arith in below_front w k vs (omega arith) i (omega arith) ∙ traded_other k p ls lk b i nk nq;
      pivot = below_front w k vs (omega arith) k (omega arith) ∙ pl;
      traded = λ l. by p (line_at ls k) l b (traded_there k p ls lk b);
      below = λ i l m ne. let nk : i ≢ k = omega arith in by i (line_at ls i) l m (traded_other k p ls lk b i nk ne);
    }
