-- The order of the search is total, and the moves are listed in it: the first that passes comes before every other that does.
use Rattle.std.proofs.Common.{◌≡◌, ℕ, zero, suc, ◌+◌, ◌^◌, ◌<◌, ◌≤◌, Bool, true, false, ◌⊎◌, List, [], ◌∷◌, ◌++◌, ℤ, pos, neg_ℤ, nat_abs, Some, sym, refl, ap, ◌∙◌, inl, inr, subst, ⊎_elim, arith, pow_mono}
use lib.Signed.{lt_z}
use Rattle.std.specs.List.{range_with_len, flat_map}
use Rattle.std.proofs.lemmas.Int.{ints}
use Rattle.std.proofs.lemmas.Bool.{cases_Bool, cases_eq, cases_lt, both_ways as both_true}
use Rattle.duality.specs.Sums.{absℤ}
use Rattle.duality.proofs.Ring.{lin}
use Rattle.duality.proofs.Sizes.{sizes as by_cases, nat_abs_neg}
use Rattle.walk.specs.Moves.{powers, sizes, move, both_ways, of_rope, candidates}
use Rattle.walk.specs.Order.{Sooner, Before}
use Rattle.walk.specs.Walks.{first}
use Rattle.walk.specs.declared.moves.Move.{Move}
use Rattle.walk.proofs.Each.{Each, each_of, each_append}
use Rattle.walk.proofs.Firsts.{first_yes, first_no}

sooner_not : (d e : ℤ) → Sooner d e → Sooner e d → ⊥
sooner_not d e (inl a) (inl b) = omega (arith, lin)
sooner_not d e (inl a) (inr b) = let f = b.0 in omega (arith, lin)
sooner_not d e (inr a) (inl b) = let f = a.0 in omega (arith, lin)
sooner_not d e (inr a) (inr b) = let f = a.1 in let g = b.1 in omega (arith, lin)

pub before_not : (m k : Move) → Before m k → Before k m → ⊥
before_not m k (inl a) (inl b) = omega arith
before_not m k (inl a) (inr b) = let e = b.0 in omega arith
before_not m k (inr a) (inl b) = let e = a.0 in omega arith
before_not m k (inr a) (inr b) = sooner_not m.by k.by a.1 b.1

same_size : (d e : ℤ) → absℤ d ≡ absℤ e → (d ≡ e) ⊎ Sooner d e ⊎ Sooner e d
same_size d e h =
    ⊎_elim
    (λ (l : lt_z d e ≡ true). inr (inr (inr (sym h, omega (arith, ints)))))
    (λ (n : lt_z d e ≡ false).
    ⊎_elim
    (λ (l : lt_z e d ≡ true). inr (inl (inr (h, omega (arith, ints)))))
    (λ (m : lt_z e d ≡ false). inl (omega (arith, ints)))
    (cases_Bool (lt_z e d)))
    (cases_Bool (lt_z d e))

sooner_or : (d e : ℤ) → (d ≡ e) ⊎ Sooner d e ⊎ Sooner e d
sooner_or d e =
    ⊎_elim
    (λ (l : lt_z (absℤ d) (absℤ e) ≡ true). inr (inr (inl (omega (arith, ints)))))
    (λ (n : lt_z (absℤ d) (absℤ e) ≡ false).
    ⊎_elim
    (λ (l : lt_z (absℤ e) (absℤ d) ≡ true). inr (inl (inl (omega (arith, ints)))))
    (λ (m : lt_z (absℤ e) (absℤ d) ≡ false). let h : absℤ d ≡ absℤ e = omega (arith, ints) in same_size d e h)
    (cases_Bool (lt_z (absℤ e) (absℤ d))))
    (cases_Bool (lt_z (absℤ d) (absℤ e)))

pub before_or : (m k : Move) → (m ≡ k) ⊎ Before m k ⊎ Before k m
before_or m k = ⊎_elim
    (λ (e : m.rope ≡ k.rope). by e (sooner_or m.by k.by))
    (λ (ne : m.rope ≡ k.rope → ⊥).
    ⊎_elim
    (λ (l : m.rope < k.rope). inr (inl (inl l)))
    (λ (g : k.rope ≤ m.rope). inr (inr (inl (omega arith))))
    (cases_lt m.rope k.rope))
    (cases_eq m.rope k.rope)
  where
    by : m.rope ≡ k.rope → (m.by ≡ k.by) ⊎ Sooner m.by k.by ⊎ Sooner k.by m.by → (m ≡ k) ⊎ Before m k ⊎ Before k m
    by e (inl d) = inl (ap (λ (r : ℕ). move r m.by) e ∙ ap (move k.rope) d)
    by e (inr (inl s)) = inr (inl (inr (e, s)))
    by e (inr (inr s)) = inr (inr (inr (sym e, s)))

-- each of a list comes before all that follow
abbrev Sorted : List Move → Type 0
Sorted [] = Unit {0}
Sorted (x ∷ xs) = Each (Before x) xs × Sorted xs

sorted_append : (xs ys : List Move) → Sorted xs → Sorted ys → Each (λ x. Each (Before x) ys) xs → Sorted (xs ++ ys)
sorted_append [] ys h k e = k
sorted_append (x ∷ xs) ys h k e = (each_append (Before x) xs ys h.0 e.0, sorted_append xs ys h.1 k e.1)

-- a move of rope j by less than 2 ^ n
abbrev Smaller : ℕ → ℕ → Move → Type 0
Smaller j n m = (m.rope ≡ j) × (nat_abs m.by < 2 ^ n)

module _ (j : ℕ) where
  smaller : (n : ℕ) → Each (Smaller j n) (flat_map (both_ways j) (powers n))
  smaller zero = tt
  smaller (suc n) =
      let l : 2 ^ n < 2 ^ suc n = omega (arith, pow_mono {i = 0} {j = n} (omega arith)) in (
        (refl, l),
        (
          (refl, omega (arith, nat_abs_neg (pos (2 ^ n)))),
          each_of (Smaller j n) (Smaller j (suc n)) (λ m h. (h.0, omega (arith, h.1))) _ (smaller n),
        ),
      )

  next : (n : ℕ) (d : ℤ) (m : Move) → nat_abs d ≡ 2 ^ n → Smaller j n m → Before (move j d) m
  next n d m e h = inr (sym h.0, inl (omega (arith, lin, ap pos e, h.1)))

  sorted_sizes : (n : ℕ) → Sorted (flat_map (both_ways j) (powers n))
  sorted_sizes zero = tt
  sorted_sizes (suc n) =
      let e = nat_abs_neg (pos (2 ^ n)) in
      let l : 0 < 2 ^ n = omega (arith, pow_mono {i = 0} {j = n} (omega arith)) in
      let rest = smaller n in (
        (inr (refl, inr (sym (ap pos e), omega (arith, by_cases))), each_of (Smaller j n) (Before (move j (pos (2 ^ n)))) (λ m h. next n _ m refl h) _ rest),
        (each_of (Smaller j n) (Before (move j (neg_ℤ (pos (2 ^ n))))) (λ m h. next n _ m e h) _ rest, sorted_sizes n),
      )

-- the moves of a rope
abbrev Of : ℕ → Move → Type 0
Of k m = m.rope ≡ k

of_this : (k : ℕ) → Each (Of k) (of_rope k)
unfolding of_rope sizes
of_this k = each_of (Smaller k 15) (Of k) (λ m h. h.0) (flat_map (both_ways k) (powers 15)) (smaller k 15)

later : (a n : ℕ) → Each (λ m. a ≤ m.rope) (flat_map of_rope (range_with_len a n))
later a zero = tt
later a (suc n) =
    each_append (λ m. a ≤ m.rope) (of_rope a) _ (each_of (Of a) (λ m. a ≤ m.rope) (λ m e. omega arith) _ (of_this a))
    (each_of (λ m. a + 1 ≤ m.rope) (λ m. a ≤ m.rope) (λ m l. omega arith) _ (later (a + 1) n))

sorted_rope : (k : ℕ) → Sorted (of_rope k)
unfolding of_rope sizes
sorted_rope k = sorted_sizes k 15

sorted_ropes : (a n : ℕ) → Sorted (flat_map of_rope (range_with_len a n))
sorted_ropes a zero = tt
sorted_ropes a (suc n) =
    let rest = later (a + 1) n in
    sorted_append (of_rope a) (flat_map of_rope (range_with_len (a + 1) n)) (sorted_rope a) (sorted_ropes (a + 1) n)
    (each_of (Of a) (λ m. Each (Before m) (flat_map of_rope (range_with_len (a + 1) n)))
    (λ m e. each_of (λ k. a + 1 ≤ k.rope) (Before m) (λ k l. inl (omega arith)) _ rest) _ (of_this a))

first_least : (t : Move → Bool) (xs : List Move) (m : Move) → Sorted xs → first t xs ≡ Some m → Each (λ k. t k ≡ true → (k ≡ m) ⊎ Before m k) xs
unfolding first
first_least t [] m s e = tt
first_least t (x ∷ xs) m s e =
    ⊎_elim
    (λ (y : t x ≡ true).
    let q : x ≡ m = cc (first_yes t x xs y, e) in
    (λ _. inl q, each_of (Before x) (λ k. t k ≡ true → (k ≡ m) ⊎ Before m k) (λ k b _. inr (subst (λ (v : Move). Before v k) q b)) xs s.0))
    (λ (n : t x ≡ false). (λ y. absurd (both_true (t x) n y), first_least t xs m s.1 (sym (first_no t x xs n) ∙ e)))
    (cases_Bool (t x))

-- what passes is the first that does, or comes after it
pub found_least : (t : Move → Bool) (n : ℕ) (m : Move) → first t (candidates n) ≡ Some m → Each (λ k. t k ≡ true → (k ≡ m) ⊎ Before m k) (candidates n)
unfolding candidates
found_least t n m e = first_least t (candidates n) m (sorted_ropes 0 n) e
