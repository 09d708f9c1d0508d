-- Every line has its unknown, which lies strictly inside the bound and is rounded to a number within it.
use Rattle.std.proofs.Common.{◌≡◌, ℕ, zero, suc, ◌+◌, ◌*◌, ◌^◌, ◌<◌, ◌≤◌, Bool, true, false, cond, T, List, [], ◌∷◌, map, length, get_or, take, drop, set, ℤ, nat_abs, Some, None, Option, sym, refl, ap, ◌∙◌, subst, true≢false, div-lt_iff_lt-mul, arith, ltb→lt}
use lib.Ieee.{Float, nan, inf, fin, binary64, up, down, round, lt, to_signed}
use lib.Ieee.Back.{round_whole}
use lib.Ieee.Fits.{down_pos}
use Rattle.std.specs.Float.{round_with, float_with_sign}
use Rattle.std.proofs.lemmas.List.{length-set, length-append, length-map, length-take, length-drop}
use Rattle.elimination.specs.Lines.{at, inside, unknown_of, one_more, unknowns_of, cleared, cleared_below, traded, takable, pivot_of, column_done, lesser, columns_done, triangle_of, solved, Solves}
use Rattle.elimination.specs.Nearest.{nearest, half_away, with_sign_of}
use Rattle.elimination.proofs.Halves.{cast_whole}

abbrev AllInside : List Float → Type 0
AllInside us = (k : ℕ) → k < length us → inside (at us k) ≡ true

none_some : {X Y : Type 0} (x : X) → ◌≡◌ {A = Option X} None (Some x) → Y
none_some x e = let z : ◌≡◌ {A = ℕ} 0 1 = cc in absurd (omega arith)

with_first : (x : Float) (xs : List Float) → inside x ≡ true → AllInside xs → AllInside (x ∷ xs)
with_first x xs e h zero l = e
with_first x xs e h (suc k) l = h k (omega arith)

joined_inside : (x : Float) (xs us : List Float) (b : Bool) → inside x ≡ b → cond b (Some (x ∷ xs)) None ≡ Some us → AllInside xs → AllInside us
joined_inside x xs us true e f h = let g : x ∷ xs ≡ us = cc in rw (← g) (with_first x xs e h)
joined_inside x xs us false e f h = none_some us f

found_inside : (n k : ℕ) (ls : List (List Float)) (us : List Float) → unknowns_of n k ls ≡ Some us → AllInside us
found_inside n k [] us e = let g : [] ≡ us = cc in rw (← g) (λ i l. absurd (omega arith))
found_inside n k (line ∷ ls) us e = go (unknowns_of n (suc k) ls) e (found_inside n (suc k) ls)
  where
    go : (o : Option (List Float)) → one_more n k line o ≡ Some us → ((xs : List Float) → o ≡ Some xs → AllInside xs) → AllInside us
    go None q h = none_some us q
    go (Some xs) q h = joined_inside (unknown_of n k line xs) xs us (inside (unknown_of n k line xs)) refl q (h xs refl)

pub found_long : (n k : ℕ) (ls : List (List Float)) (us : List Float) → unknowns_of n k ls ≡ Some us → length us ≡ length ls
found_long n k [] us e = let g : [] ≡ us = cc in ap length (sym g)
found_long n k (line ∷ ls) us e = go (unknowns_of n (suc k) ls) e (found_long n (suc k) ls)
  where
    joined : (x : Float) (xs : List Float) (b : Bool) → cond b (Some (x ∷ xs)) None ≡ Some us → length xs ≡ length ls → length us ≡ suc (length ls)
    joined x xs true f h = let g : x ∷ xs ≡ us = cc in ap length (sym g) ∙ ap suc h
    joined x xs false f h = none_some us f

    go : (o : Option (List Float)) → one_more n k line o ≡ Some us → ((xs : List Float) → o ≡ Some xs → length xs ≡ length ls) → length us ≡ suc (length ls)
    go None q h = none_some us q
    go (Some xs) q h = joined (unknown_of n k line xs) xs (inside (unknown_of n k line xs)) q (h xs refl)

length_done : (w k i j : ℕ) (ls : List (List Float)) → length (cleared_below w k (traded i j ls)) ≡ length ls
length_done w k i j ls =
    let ms = traded i j ls in
    let a : length ms ≡ length ls = length-set (set ls i (get_or ls j [])) j (get_or ls i []) ∙ length-set ls i (get_or ls j []) in
    let g = cleared k (take w (get_or ms k [])) in
    let b = length-append (take (k + 1) ms) (map g (drop (k + 1) ms)) in
    let c = length-map (drop (k + 1) ms) g in
    omega (arith, length-take (k + 1) ms, length-drop (k + 1) ms)

pub columns_long : (w m k : ℕ) (s : Float) (ls : List (List Float)) → length (columns_done w m k s ls).lines ≡ length ls
columns_long w zero k s ls = refl
columns_long w (suc m) k s ls =
    go (takable (pivot_of k ls).1) (columns_long w m (suc k) (lesser s (pivot_of k ls).1) (column_done w k ls) ∙ length_done w k k (pivot_of k ls).0 ls)
  where
    go : (b : Bool) → length (columns_done w m (suc k) (lesser s (pivot_of k ls).1) (column_done w k ls)).lines ≡ length ls →
        length (cond b (columns_done w m (suc k) (lesser s (pivot_of k ls).1) (column_done w k ls)) (record { whole = false; least = s; lines = ls })).lines ≡ length ls
    go true h = h
    go false h = refl

pub unknowns_solve : (n : ℕ) (ls : List (List Float)) → length ls ≡ n → Solves n (unknowns_of n 0 ls)
unknowns_solve n ls l = found (unknowns_of n 0 ls) refl
  where
    found : (o : Option (List Float)) → unknowns_of n 0 ls ≡ o → Solves n o
    found None e = tt
    found (Some us) e = (found_long n 0 ls us e ∙ l, found_inside n 0 ls us e)

-- a system that is solved has an unknown for each line, inside the bound
pub solves : (s : Float) (ls : List (List Float)) → Solves (length ls) (solved s ls).1
unfolding solved
solves s ls = go (triangle_of s ls).whole (unknowns_solve (length ls) (triangle_of s ls).lines (columns_long (length ls + 1) (length ls) 0 s ls))
  where
    go : (b : Bool) → Solves (length ls) (unknowns_of (length ls) 0 (triangle_of s ls).lines) → Solves (length ls) (cond b (unknowns_of (length ls) 0 (triangle_of s ls).lines) None)
    go true h = h
    go false h = tt

half_within : (n d : ℕ) → 0 < d → n < 2 ^ 30 * d → half_away n d ≤ 2 ^ 30
half_within n d p h =
    let q : 0 < 2 * d = omega arith in
    let l : half_away n d < 2 ^ 30 + 1 = (div-lt_iff_lt-mul q).1 (omega arith) in
    omega arith

abs_sign : (s : Bool) (q : ℕ) → nat_abs (with_sign_of s q) ≡ q
abs_sign false q = refl
abs_sign true zero = refl
abs_sign true (suc q) = refl

nearest_value : (s : Bool) (m : ℕ) (e : ℤ) → nearest (fin s m e) ≡ to_signed 63 (round binary64 s (half_away (m * up e) (down e)) 1)
unfolding round_with nearest
nearest_value true m e = refl
nearest_value false m e = refl

pub nearest_within : (x : Float) → inside x ≡ true → nat_abs (nearest x) ≤ 1073741824
unfolding lt float_with_sign
nearest_within nan e = absurd (true≢false (sym e))
nearest_within (inf s) e = absurd (true≢false (sym e))
nearest_within (fin s m e) f =
    let P : Bool → Type 0 = T in
    let h = ltb→lt _ _ (subst P (sym f) tt) in
    let n = m * up e in
    let q = half_within n (down e) (down_pos e) (omega arith) in
    let v : nearest (fin s m e) ≡ with_sign_of s (half_away n (down e)) =
    nearest_value s m e ∙ cast_whole (round binary64 s (half_away n (down e)) 1) s (half_away n (down e)) (omega arith) (round_whole binary64 s (half_away n (down e)) (omega arith)) in
    let a = ap nat_abs v ∙ abs_sign s (half_away n (down e)) in
    omega (arith, a, q)
