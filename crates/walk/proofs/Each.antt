-- What holds of each of a list, of its parts, and of the moves that are tried.
use Rattle.std.proofs.Common.{◌≡◌, ℕ, zero, suc, ◌+◌, ◌^◌, ◌<◌, ◌≤◌, Bool, true, false, List, [], ◌∷◌, ◌++◌, ℤ, pos, negsuc, neg_ℤ, Some, None, sym, refl, ap, ◌∙◌, subst, ⊎_elim, arith}
use Rattle.std.specs.List.{range_with_len, flat_map}
use Rattle.std.proofs.lemmas.Bool.{cases_eq, cases_Bool}
use Rattle.duality.specs.Sums.{absℤ}
use Rattle.duality.proofs.Sizes.{nat_abs_neg}
use Rattle.walk.specs.Moves.{powers, sizes, both_ways, of_rope, candidates}
use Rattle.walk.specs.Walks.{first}
use Rattle.walk.specs.declared.moves.Move.{Move}
use Rattle.walk.proofs.Firsts.{first_yes, first_no}

abbrev pub Each : {X : Type 0} → (X → Type 0) → List X → Type 0
Each P [] = Unit {0}
Each P (x ∷ xs) = P x × Each P xs

pub each_append : {X : Type 0} (P : X → Type 0) (xs ys : List X) → Each P xs → Each P ys → Each P (xs ++ ys)
each_append P [] ys h k = k
each_append P (x ∷ xs) ys h k = (h.0, each_append P xs ys h.1 k)

pub each_of : {X : Type 0} (P Q : X → Type 0) → ((x : X) → P x → Q x) → (xs : List X) → Each P xs → Each Q xs
each_of P Q f [] h = tt
each_of P Q f (x ∷ xs) h = (f x h.0, each_of P Q f xs h.1)

each_joined : {X Y : Type 0} (P : Y → Type 0) (Q : X → Type 0) (f : X → List Y) → ((x : X) → Q x → Each P (f x)) → (xs : List X) → Each Q xs → Each P (flat_map f xs)
each_joined P Q f h [] q = tt
each_joined P Q f h (x ∷ xs) q = each_append P (f x) (flat_map f xs) (h x q.0) (each_joined P Q f h xs q.1)

each_left : {X : Type 0} (P : X → Type 0) (xs ys : List X) → Each P (xs ++ ys) → Each P xs
each_left P [] ys h = tt
each_left P (x ∷ xs) ys h = (h.0, each_left P xs ys h.1)

each_right : {X : Type 0} (P : X → Type 0) (xs ys : List X) → Each P (xs ++ ys) → Each P ys
each_right P [] ys h = h
each_right P (x ∷ xs) ys h = each_right P xs ys h.1

each_parts : {X Y : Type 0} (P : Y → Type 0) (f : X → List Y) (xs : List X) → Each P (flat_map f xs) → Each (λ x. Each P (f x)) xs
each_parts P f [] h = tt
each_parts P f (x ∷ xs) h = (each_left P (f x) (flat_map f xs) h, each_parts P f xs (each_right P (f x) (flat_map f xs) h))

-- of the ropes below n
each_counting : (Q : ℕ → Type 0) (a n : ℕ) → ((k : ℕ) → k < a + n → Q k) → Each Q (range_with_len a n)
each_counting Q a zero h = tt
each_counting Q a (suc n) h = (h a (omega arith), each_counting Q (a + 1) n (λ k l. h k (omega arith)))

each_rope : (Q : ℕ → Type 0) (a n k : ℕ) → a ≤ k → k < a + n → Each Q (range_with_len a n) → Q k
each_rope Q a zero k l m h = absurd (omega arith)
each_rope Q a (suc n) k l m h =
    ⊎_elim (λ (e : a ≡ k). subst Q e h.0) (λ (ne : a ≡ k → ⊥). each_rope Q (a + 1) n k (omega arith) (omega arith) h.1) (cases_eq a k)

-- of the first n powers of two
each_power : (Q : ℤ → Type 0) (n k : ℕ) → k < n → Each Q (powers n) → Q (pos (2 ^ k))
each_power Q zero k l h = absurd (omega arith)
each_power Q (suc n) k l h = ⊎_elim (λ (e : n ≡ k). subst (λ (i : ℕ). Q (pos (2 ^ i))) e h.0) (λ (ne : n ≡ k → ⊥). each_power Q n k (omega arith) h.1) (cases_eq n k)

each_from : (Q : ℤ → Type 0) (n : ℕ) → ((k : ℕ) → k < n → Q (pos (2 ^ k))) → Each Q (powers n)
each_from Q zero h = tt
each_from Q (suc n) h = (h n (omega arith), each_from Q n (λ k l. h k (omega arith)))

-- a size is a power of two
abbrev Known : ℤ → Type 0
Known s = (i : ℕ) × (i < 15) × (absℤ s ≡ pos (2 ^ i))

-- a move of the list is one of n ropes by a size
abbrev pub Listed : ℕ → Move → Type 0
Listed n m = (m.rope < n) × Known m.by

pub candidates_listed : (n : ℕ) → Each (Listed n) (candidates n)
unfolding candidates of_rope sizes
candidates_listed n = each_joined (Listed n) (λ k. k < n) of_rope rope (range_with_len 0 n) (each_counting (λ k. k < n) 0 n (λ k l. omega arith))
  where
    rope : (k : ℕ) → k < n → Each (Listed n) (of_rope k)
    rope k l = each_joined (Listed n) Known (both_ways k) (λ s h. ((l, h), ((l, (h.0, h.1, ap pos (nat_abs_neg s) ∙ h.2)), tt))) sizes (each_from Known 15 (λ i m. (i, m, refl)))

-- and the list has each such move
pub each_listed : (P : Move → Type 0) (n : ℕ) (m : Move) → Listed n m → Each P (candidates n) → P m
unfolding candidates of_rope sizes
each_listed P n m h e =
    let mine = each_rope (λ k. Each P (of_rope k)) 0 n m.rope (omega arith) (omega (arith, h.0)) (each_parts P of_rope (range_with_len 0 n) e) in
    let here = each_power (λ s. Each P (both_ways m.rope s)) 15 h.1.0 h.1.1 (each_parts P (both_ways m.rope) sizes mine) in
    way (pos (2 ^ h.1.0)) m.by h.1.2 here
  where
    way : (s d : ℤ) → absℤ d ≡ s → Each P (both_ways m.rope s) → P (record { rope = m.rope; by = d })
    way s (pos d) e w = subst (λ (v : ℤ). P (record { rope = m.rope; by = v })) (sym e) w.0
    way s (negsuc d) e w = subst (λ (v : ℤ). P (record { rope = m.rope; by = neg_ℤ v })) (sym e) w.1.0

-- the first that passes passes, and where none is found each fails
pub first_holds : (t : Move → Bool) (P : Move → Type 0) (xs : List Move) (m : Move) → Each P xs → first t xs ≡ Some m → (t m ≡ true) × P m
unfolding first
first_holds t P [] m h e = let k : ◌≡◌ {A = ℕ} 0 1 = cc in absurd (omega arith)
first_holds t P (x ∷ xs) m h e =
    ⊎_elim
    (λ (y : t x ≡ true). let s : x ≡ m = cc (first_yes t x xs y, e) in (sym (ap t s) ∙ y, subst P s h.0))
    (λ (n : t x ≡ false). first_holds t P xs m h.1 (sym (first_no t x xs n) ∙ e))
    (cases_Bool (t x))

pub first_none : (t : Move → Bool) (xs : List Move) → first t xs ≡ None → Each (λ m. t m ≡ false) xs
first_none t [] e = tt
first_none t (x ∷ xs) e =
    ⊎_elim
    (λ (y : t x ≡ true). let k : ◌≡◌ {A = ℕ} 0 1 = cc (first_yes t x xs y, e) in absurd (omega arith))
    (λ (n : t x ≡ false). (n, first_none t xs (sym (first_no t x xs n) ∙ e)))
    (cases_Bool (t x))
