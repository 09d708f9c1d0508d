-- Numbers, each after a blank.
use Rattle.std.proofs.Common.{◌≡◌, ℕ, ◌+◌, ◌<◌, ◌≤◌, List, [], ◌∷◌, ◌++◌, map, length, get_or, take, drop, ℤ, pos, sym, refl, ap, ◌∙◌, arith}
use Rattle.std.specs.Fmt.{signed_decimal}
use Rattle.std.proofs.lemmas.List.{length-append, append-nil, append_assoc, take_more, take_all, take-append-drop}
use Rattle.lines.specs.Texts.{rest}

abbrev pub spread : List ℤ → List ℕ
spread [] = []
spread (z ∷ zs) = 32 ∷ (signed_decimal z ++ spread zs)

pub rest_is : (zs : List ℤ) → rest (map signed_decimal zs) ≡ spread zs ++ (10 ∷ [])
rest_is [] = refl
rest_is (z ∷ zs) = ap (λ t. 32 ∷ t) (ap (λ t. signed_decimal z ++ t) (rest_is zs) ∙ sym (append_assoc (signed_decimal z) (spread zs) (10 ∷ [])))

spread_append : (xs ys : List ℤ) → spread (xs ++ ys) ≡ spread xs ++ spread ys
spread_append [] ys = refl
spread_append (x ∷ xs) ys = ap (λ t. 32 ∷ t) (ap (λ t. signed_decimal x ++ t) (spread_append xs ys) ∙ sym (append_assoc (signed_decimal x) (spread xs) (spread ys)))

spread_more : (zs : List ℤ) (i : ℕ) → i < length zs → spread (take (i + 1) zs) ≡ spread (take i zs) ++ (32 ∷ (signed_decimal (get_or zs i (pos 0)) ++ []))
spread_more zs i l = ap spread (take_more zs i (pos 0) l) ∙ spread_append (take i zs) (get_or zs i (pos 0) ∷ [])

-- the numbers before place i, and the end of the line, have no more room than all
spread_room : (zs : List ℤ) (i : ℕ) → length (spread (take i zs)) + 1 ≤ length (rest (map signed_decimal zs))
spread_room zs i =
    let whole : spread zs ≡ spread (take i zs) ++ spread (drop i zs) = ap spread (sym (take-append-drop i zs)) ∙ spread_append (take i zs) (drop i zs) in
    omega (arith, ap length (rest_is zs), length-append (spread zs) (10 ∷ []), ap length whole, length-append (spread (take i zs)) (spread (drop i zs)))

-- the text b is a and the numbers before place i
module _ (zs : List ℤ) (a b : List ℕ) (i n : ℕ) (e : b ≡ a ++ spread (take i zs)) where
  pub room_end : length a + length (rest (map signed_decimal zs)) ≤ n → length b + 1 ≤ n
  room_end h = omega (arith, ap length e, length-append a (spread (take i zs)), spread_room zs i)

  pub all_put : length zs ≤ i → b ++ (10 ∷ []) ≡ a ++ rest (map signed_decimal zs)
  all_put l =
      ap (λ t. t ++ (10 ∷ [])) (e ∙ ap (λ t. a ++ spread t) (take_all i zs l))
      ∙ (append_assoc a (spread zs) (10 ∷ []) ∙ ap (λ t. a ++ t) (sym (rest_is zs)))

  -- one number more
  module _ (l : i < length zs) (t : List ℕ) (s : t ≡ signed_decimal (get_or zs i (pos 0))) where
    more : spread (take (i + 1) zs) ≡ spread (take i zs) ++ (32 ∷ (t ++ []))
    more = spread_more zs i l ∙ ap (λ x. spread (take i zs) ++ (32 ∷ (x ++ []))) (sym s)

    pub room_more : (d : List ℕ) → length d ≡ length b + 1 → length a + length (rest (map signed_decimal zs)) ≤ n → length d + length t ≤ n
    room_more d k h =
        omega (arith, k, ap length e, length-append a (spread (take i zs)), spread_room zs (i + 1), ap length more, length-append (spread (take i zs)) (32 ∷ (t ++ [])), length-append t [])

    pub put_more : (b ++ (32 ∷ [])) ++ t ≡ a ++ spread (take (i + 1) zs)
    put_more =
        append_assoc b (32 ∷ []) t
        ∙ (ap (λ x. x ++ (32 ∷ t)) e
        ∙ (append_assoc a (spread (take i zs)) (32 ∷ t) ∙ (ap (λ x. a ++ (spread (take i zs) ++ (32 ∷ x))) (sym (append-nil t)) ∙ ap (λ x. a ++ x) (sym more))))
