-- A list that a loop writes place by place, seen in its first places.
use Rattle.std.proofs.Common.{◌≡◌, ℕ, zero, suc, ◌+◌, ◌-◌, ◌<◌, ◌≤◌, List, [], ◌∷◌, ◌++◌, map, length, get_or, take, drop, set, replicate, ℤ, pos, sym, refl, ap, ◌∙◌, subst, arith}
use native.Mathlib.Nat.{sub-zero}
use lib.Ieee.{Float, nan}
use borrow.Rule.Slice.PartMut.{post_of}
use Rattle.exchange.specs.Offers.{filled}
use Rattle.std.proofs.lemmas.List.{length-take-le, drop-replicate, length-replicate, take_at, drop_at, take_more, take_more_set, map-append, drop-set-lt, drop-drop, length-set, length-map, take-append-drop, take_all}
use Rattle.exchange.specs.Rounding.{pulled, pressed, scaled, in_parts}
use Rattle.elimination.specs.Nearest.{nearest}

-- a write of a line that is as long as the others
pub lengths_set : {X : Type 0} (ls : List (List X)) (r n : ℕ) (x : List X) → ((i : ℕ) → i < length ls → length (get_or ls i []) ≡ n) → length x ≡ n →
    (i : ℕ) → i < length ls → length (get_or (set ls r x) i []) ≡ n
lengths_set [] r n x h e i l = absurd (omega arith)
lengths_set (y ∷ ls) zero n x h e zero l = e
lengths_set (y ∷ ls) zero n x h e (suc i) l = h (suc i) l
lengths_set (y ∷ ls) (suc r) n x h e zero l = h 0 l
lengths_set (y ∷ ls) (suc r) n x h e (suc i) l = lengths_set ls r n x (λ k t. h (suc k) (omega arith)) e i (omega arith)

-- a part of an array of zeros, and the array after the part is written
pub zeros_long : {X : Type 0} (z : X) (c n : ℕ) → n ≤ c → length (take (n - 0) (replicate c z)) ≡ n
zeros_long z c n h = rw sub-zero (length-take-le n (replicate c z) (omega (arith, length-replicate c z)))

pub filled_is : (c n : ℕ) (ys xs : List ℤ) → length ys ≡ n → ys ≡ xs → ys ++ post_of 0 (n - 0) (replicate c (pos 0)) ≡ filled c xs
filled_is c n ys xs l e =
    let P : ℕ → Type 0 = λ k. drop k (replicate c (pos 0)) ≡ replicate (c - length ys) (pos 0) in
    let d : drop n (replicate c (pos 0)) ≡ replicate (c - length ys) (pos 0) = drop-replicate n c (pos 0) ∙ rw l in
    ap (λ z. ys ++ z) (subst P (sym (sub-zero n)) d) ∙ ap (filled c) e

pub take_filled_up : (c n : ℕ) (xs : List ℤ) → length xs ≡ n → take n (filled c xs) ≡ xs
take_filled_up c n xs l = take_at xs (replicate (c - length xs) (pos 0)) n l

pub drop_filled_up : (c n : ℕ) (xs : List ℤ) → length xs ≡ n → drop n (filled c xs) ≡ replicate (c - n) (pos 0)
drop_filled_up c n xs l = drop_at xs (replicate (c - length xs) (pos 0)) n l ∙ rw l

-- a list of n places that a loop fills with rounded numbers
module _ (n k : ℕ) (xs : List ℤ) (us : List Float) where
  pub one_filled : (y : ℤ) → k < n → k < length us → take k xs ≡ map nearest (take k us) → drop k xs ≡ replicate (n - k) (pos 0) → length xs ≡ n → y ≡ nearest (get_or us k nan) →
      (take (k + 1) (set xs k y) ≡ map nearest (take (k + 1) us)) × (drop (k + 1) (set xs k y) ≡ replicate (n - (k + 1)) (pos 0)) × (length (set xs k y) ≡ n)
  one_filled y h l a b c e =
      let lt : k < k + 1 = omega arith in
      let t : k < length xs = omega arith in
      let p = take_more us k nan l in
      let m : n - k - 1 ≡ n - (k + 1) = omega arith in (
        take_more_set xs k y t ∙ rw (a, e) (sym (ap (map nearest) p ∙ map-append nearest (take k us) (get_or us k nan ∷ []))),
        drop-set-lt (k + 1) xs k y lt ∙ sym (drop-drop 1 k xs) ∙ ap (drop 1) b ∙ drop-replicate 1 (n - k) (pos 0) ∙ ap (λ (i : ℕ). replicate i (pos 0)) m,
        length-set xs k y ∙ c,
      )

  pub all_filled : k ≡ length us → take k xs ≡ map nearest (take k us) → drop k xs ≡ replicate (n - k) (pos 0) → xs ≡ filled n (map nearest us)
  all_filled e a b =
      let l = length-map us nearest in
      let m : n - k ≡ n - length (map nearest us) = omega arith in
      sym (take-append-drop k xs) ∙ rw (a, b) (ap (λ z. map nearest z ++ replicate (n - k) (pos 0)) (take_all k us (omega arith)) ∙ ap (λ (i : ℕ). map nearest us ++ replicate i (pos 0)) m)

-- unknowns that are brought to 256ths and then rounded
pub pressed_parts : (us : List Float) → pulled (map in_parts us) ≡ pressed us
pressed_parts [] = refl
pressed_parts (u ∷ us) = ap (λ z. scaled u ∷ z) (pressed_parts us)
