-- A search along 0, 1 .. n - 1 that keeps the first of the largest.
use Rattle.std.proofs.Common.{◌≡◌, ℕ, zero, suc, ◌<◌, ℤ, ◌≤ℤ◌, ◌<ℤ◌, ◌⊎◌, inl, inr, refl, ap, ◌∙◌, subst, ⊎_elim, arith}
use Rattle.std.proofs.lemmas.Bool.{cases_lt}
use Rattle.std.proofs.lemmas.Int.{ints}
use Rattle.exchange.specs.Breaches.{upto}

-- each has a size, and some do not count
module _ {X : Type 0} (size : X → ℤ) (c : ℕ → X) (Counts : ℕ → Type 0) where
  -- at k the search goes over from b to r: it takes k's if that counts and is larger, and keeps b otherwise
  abbrev pub Turn : X → ℕ → X → Type 0
  Turn b k r = ((r ≡ c k) × Counts k × (size b <ℤ size (c k))) ⊎ ((r ≡ b) × (Counts k → size (c k) ≤ℤ size b))

  -- b is still what the search began with: nothing below n is larger
  pub record Kept (x : X) (n : ℕ) (b : X) : Type 0 where
    pub is : b ≡ x
    pub most : (k : ℕ) → k < n → Counts k → size (c k) ≤ℤ size x

  -- b is the first of the largest below n
  pub record Largest (x : X) (n : ℕ) (b : X) : Type 0 where
    pub place : ℕ
    pub within : place < n
    pub is : b ≡ c place
    pub counted : Counts place
    pub above : size x <ℤ size b
    pub most : (k : ℕ) → k < n → Counts k → size (c k) ≤ℤ size b
    pub first : (k : ℕ) → k < place → Counts k → size (c k) <ℤ size b

  abbrev pub Found : X → ℕ → X → Type 0
  Found x n b = Kept x n b ⊎ Largest x n b

  one_more : (x b r : X) (n : ℕ) → Found x n b → Turn b n r → Found x (suc n) r
  one_more x b r n (inl h) (inl t) =
      let e = ap size h.is in
      let f = ap size t.0 in
      inr (record {
        place = n;
        within = omega arith;
        is = t.0;
        counted = t.1;
        above = omega (arith, ints, e, f, t.2);
        most = λ k l o. ⊎_elim (λ a. let g = h.most k a o in omega (arith, ints, e, f, g, t.2)) (λ a. let q : k ≡ n = omega arith in let g = ap (λ i. size (c i)) q in omega (arith, ints, f, g)) (cases_lt k n);
        first = λ k l o. let g = h.most k l o in omega (arith, ints, e, f, g, t.2);
      })
  one_more x b r n (inl h) (inr t) =
      let e = ap size h.is in
      inl (record {
        is = t.0 ∙ h.is;
        most = λ k l o. ⊎_elim (λ a. h.most k a o) (λ a. let q : k ≡ n = omega arith in let g = ap (λ i. size (c i)) q in let m = t.1 (subst Counts q o) in omega (arith, ints, e, g, m)) (cases_lt k n);
      })
  one_more x b r n (inr h) (inl t) =
      let f = ap size t.0 in
      inr (record {
        place = n;
        within = omega arith;
        is = t.0;
        counted = t.1;
        above = omega (arith, ints, f, h.above, t.2);
        most = λ k l o. ⊎_elim (λ a. let g = h.most k a o in omega (arith, ints, f, g, t.2)) (λ a. let q : k ≡ n = omega arith in let g = ap (λ i. size (c i)) q in omega (arith, ints, f, g)) (cases_lt k n);
        first = λ k l o. let g = h.most k l o in omega (arith, ints, f, g, t.2);
      })
  one_more x b r n (inr h) (inr t) =
      let e = ap size t.0 in
      inr (record {
        place = h.place;
        within = let w = h.within in omega arith;
        is = t.0 ∙ h.is;
        counted = h.counted;
        above = omega (arith, ints, e, h.above);
        most = λ k l o. ⊎_elim (λ a. let g = h.most k a o in omega (arith, ints, e, g)) (λ a. let q : k ≡ n = omega arith in let g = ap (λ i. size (c i)) q in let m = t.1 (subst Counts q o) in omega (arith, ints, e, g, m)) (cases_lt k n);
        first = λ k l o. let g = h.first k l o in omega (arith, ints, e, g);
      })

  pub upto_found : (f : X → ℕ → X) → ((b : X) (k : ℕ) → Turn b k (f b k)) → (x : X) (n : ℕ) → Found x n (upto f x n)
  upto_found f t x zero = inl (record { is = refl; most = λ k l o. absurd (omega arith) })
  upto_found f t x (suc n) = one_more x (upto f x n) (f (upto f x n) n) n (upto_found f t x n) (t (upto f x n) n)
