-- Runs of a line as code writes them.
use Rattle.std.proofs.Common.{◌≡◌, ℕ, zero, suc, ◌+◌, ◌-◌, ◌*◌, ◌<◌, ◌≤◌, List, [], ◌∷◌, ◌++◌, map, length, get_or, take, drop, set, replicate, ℤ, pos, nat_abs, mul-le-mul, le_refl, sym, refl, ap, ◌∙◌, ◌≢◌, below_more, arith}
use native.Mathlib.Nat.{sub-zero}
use lib.Ieee.{Float, nan, binary64, of_int, of_bits, of_fields, odd}
use Rattle.std.proofs.lemmas.List.{ext_get_or, get_or-map, get_or-take, get_or-drop, get_or-set_same, get_or-set_other, length-set, length-map, length-take, length-take-le, length-drop, map-append, take_at, append_assoc, length-append}
use Rattle.std.proofs.lemmas.List.FromFn.{fill_by_all, get_or-map-range_with_len, length-map-range_with_len}
use Rattle.std.specs.List.{range_with_len}
use Rattle.duality.specs.Lists.{places, by_rows}
use Rattle.elimination.specs.Lines.{seen}
use Rattle.job.specs.Numbers.{problem_of}
use Rattle.exchange.specs.Systems.{size_of, floats}
use Rattle.exchange.specs.declared.working.WorkingSet.{WorkingSet}
use Rattle.exchange.proofs.Filling.{lengths_set}
use borrow.Rule.Slice.PartMut.{post_of}

-- a line that is written place by place
pub written : (xs : List ℤ) (line : List Float) → length line ≡ length xs → ((i : ℕ) → i < length xs → get_or line i nan ≡ of_int binary64 (places xs i)) → line ≡ floats xs
written xs line e h =
    ext_get_or nan line (floats xs) (e ∙ sym (length-map xs (of_int binary64)))
    (λ i l. h i (omega arith) ∙ sym (get_or-map (of_int binary64) xs i (pos 0) nan (omega arith)))

pub written_map : {X : Type 0} (g : X → ℤ) (ms : List X) (d : X) (line : List Float) → length line ≡ length ms →
    ((i : ℕ) → i < length ms → get_or line i nan ≡ of_int binary64 (g (get_or ms i d))) → line ≡ floats (map g ms)
written_map g ms d line e h =
    let l = length-map ms g in
    written (map g ms) line (e ∙ sym l) (λ i t. h i (omega arith) ∙ ap (of_int binary64) (sym (get_or-map g ms i d (pos 0) (omega arith))))

pub written_range : (g : ℕ → ℤ) (n : ℕ) (line : List Float) → length line ≡ n → ((i : ℕ) → i < n → get_or line i nan ≡ of_int binary64 (g i)) → line ≡ floats (map g (range_with_len 0 n))
written_range g n line e h =
    let l = length-map-range_with_len g 0 n in
    written (map g (range_with_len 0 n)) line (e ∙ sym l) (λ i t. h i (omega arith) ∙ ap (of_int binary64) (sym (get_or-map-range_with_len g 0 n i i (pos 0) (omega arith) (omega arith))))

-- row r of a square table of n columns, as it lies in one run
pub row_run : (n r : ℕ) (g : List ℤ) → r < n → length g ≡ n * n → take n (drop (r * n) g) ≡ map (by_rows n g r) (range_with_len 0 n)
row_run n r g l e =
    let h = mul-le-mul {n₁ = suc r} {m₁ = n} {n₂ = n} {m₂ = n} l (le_refl n) in
    let d = length-drop (r * n) g in
    fill_by_all (by_rows n g r) (take n (drop (r * n) g)) n (pos 0) (length-take-le n (drop (r * n) g) (omega arith))
    (λ k t. get_or-take n (drop (r * n) g) k (pos 0) t ∙ get_or-drop (r * n) g k (pos 0))

pub small_run : (b m a : ℕ) (xs : List ℤ) → ((k : ℕ) → nat_abs (places xs k) ≤ b) → (k : ℕ) → k < length (take m (drop a xs)) → nat_abs (places (take m (drop a xs)) k) ≤ b
small_run b m a xs h k l =
    let e = length-take m (drop a xs) in
    let lt : k < m = omega arith in
    omega (arith, ap nat_abs (get_or-take m (drop a xs) k (pos 0) lt ∙ get_or-drop a xs k (pos 0)), h (a + k))

set_one : (cs : List Float) (v : Float) → length cs ≡ 1 → set cs 0 v ≡ v ∷ []
set_one [] v e = absurd (omega arith)
set_one (c ∷ []) v e = refl
set_one (c ∷ d ∷ cs) v e = absurd (omega arith)

-- a line of two runs and a last place
pub line_joined : (xs ys : List ℤ) (z : ℤ) (us vs cs : List Float) (v : Float) → us ≡ floats xs → vs ≡ floats ys → v ≡ of_int binary64 z → length cs ≡ 1 →
    us ++ (vs ++ set cs 0 v) ≡ floats (xs ++ (ys ++ z ∷ []))
line_joined xs ys z us vs cs v a b c l =
    let f = of_int binary64 in
    ap (λ q. us ++ (vs ++ q)) (set_one cs v l ∙ ap (λ z. z ∷ []) c)
    ∙ ap (λ q. us ++ (q ++ f z ∷ [])) b
    ∙ ap (λ q. q ++ (floats ys ++ f z ∷ [])) a
    ∙ ap (λ q. floats xs ++ q) (sym (map-append f ys (z ∷ [])))
    ∙ sym (map-append f xs (ys ++ z ∷ []))

pub zero_int : of_bits binary64 0 ≡ of_int binary64 (pos 0)
unfolding of_bits of_fields odd of_int
zero_int = refl

zeros_map : (n : ℕ) → replicate n (of_int binary64 (pos 0)) ≡ floats (replicate n (pos 0))
zeros_map zero = refl
zeros_map (suc n) = ap (λ z. of_int binary64 (pos 0) ∷ z) (zeros_map n)

pub zeros : (n : ℕ) → replicate n (of_bits binary64 0) ≡ floats (replicate n (pos 0))
zeros n = ap (replicate n) zero_int ∙ zeros_map n

-- what is seen of the first lines of a square that was written in two parts
pub seen_parts : (w n m : ℕ) (us vs cs : List (List Float)) → length us ≡ n → length vs ≡ m → seen w (take (n + m) (us ++ (vs ++ cs))) ≡ seen w us ++ seen w vs
seen_parts w n m us vs cs a b =
    ap (seen w) (ap (take (n + m)) (sym (append_assoc us vs cs)) ∙ take_at (us ++ vs) cs (n + m) (length-append us vs ∙ (omega arith))) ∙ map-append (take w) us vs

-- the lines of a square, written one after another in their first places
module _ (w n : ℕ) (f : ℕ → List Float) (h : w ≤ 33) where
  abbrev pub Begun : ℕ → List (List Float) → Type 0
  Begun k ls = ((i : ℕ) → i < k → take w (get_or ls i []) ≡ f i) × ((i : ℕ) → i < length ls → length (get_or ls i []) ≡ 33)

  pub none_begun : (ls : List (List Float)) → ((i : ℕ) → i < length ls → length (get_or ls i []) ≡ 33) → Begun 0 ls
  none_begun ls g = (λ i l. absurd (omega arith), g)

  pub place_long : (v k : ℕ) (ls : List (List Float)) → v ≡ w → k < length ls → length (get_or ls k []) ≡ 33 → length (take (v - 0) (get_or ls k [])) ≡ w
  place_long v k ls e l g = rw (sub-zero v) (length-take-le v (get_or ls k []) (omega arith) ∙ e)

  pub one_line : (v k : ℕ) (ls : List (List Float)) (ys : List Float) → v ≡ w → k < length ls → Begun k ls → length ys ≡ w → ys ≡ f k →
      Begun (k + 1) (set ls k (ys ++ post_of 0 (v - 0) (get_or ls k [])))
  one_line v k ls ys z l b q e =
      let line = get_or ls k [] in
      let x = ys ++ post_of 0 (v - 0) line in
      let t : length line ≡ 33 = b.1 k l in
      let d = length-drop (v - 0) line in
      let p : length x ≡ 33 = length-append ys (post_of 0 (v - 0) line) ∙ omega arith in (
        below_more _ _ (λ i a. let ne : i ≢ k = omega arith in ap (take w) (get_or-set_other ls k i x [] ne) ∙ b.0 i a) (ap (take w) (get_or-set_same ls k x [] l) ∙ take_at ys (post_of 0 (v - 0) line) w q ∙ e),
        λ i a. lengths_set ls k 33 x b.1 p i (omega (arith, length-set ls k x)),
      )

  pub all_lines : (ls : List (List Float)) → length ls ≡ n → (k : ℕ) → n ≤ k → Begun k ls → seen w ls ≡ map f (range_with_len 0 n)
  all_lines ls l m a b = fill_by_all f (seen w ls) n [] (length-map ls (take w) ∙ l) (λ k t. get_or-map (take w) ls k [] [] (omega arith) ∙ b.0 k (omega arith))

-- a map over a list by its places
pub map_places : {X : Type 0} (g : X → List Float) (ms : List X) (d : X) → map (λ (i : ℕ). g (get_or ms i d)) (range_with_len 0 (length ms)) ≡ map g ms
map_places g ms d =
    sym (fill_by_all (λ (i : ℕ). g (get_or ms i d)) (map g ms) (length ms) [] (length-map ms g) (λ k t. get_or-map g ms k d [] t))

pub width_few : (s : WorkingSet) → size_of (problem_of s.job.now) s.members.now + 1 ≤ 33
width_few s = omega (arith, s.job.now.terms.some.1, s.few)
