-- Lists of rows, filled number by number and row by row.
use Rattle.std.proofs.Common.{◌≡◌, ℕ, zero, suc, ◌+◌, ◌-◌, ◌*◌, ◌<◌, ◌≤◌, true, List, [], ◌∷◌, ◌++◌, map, length, ℤ, pos, nat_abs, sym, refl, ap, ◌∙◌, le_refl, min, mul-le-mul, add-mul, add-one, arith}
use Rattle.std.specs.List.{range_with_len, flat_map}
use Rattle.std.proofs.lemmas.List.FromFn.{length-map-range_with_len, get_or-map-range_with_len, map-range_with_len_more}
use Rattle.std.proofs.lemmas.List.{append-nil, append_assoc, length-append, get_or_append_left, get_or-append_right, nil_from_length}
use Rattle.std.proofs.lemmas.Bool.{le-leb}
use Rattle.duality.specs.Lists.{places, by_rows}
use Rattle.duality.specs.Sums.{Matrix, Vector}
use Rattle.duality.specs.Tests.{within, all_within}
use Rattle.duality.proofs.Tests.{all_from}
use Rattle.reading.specs.Plain.{listed, RowByRow}

abbrev rows_from : Matrix → ℕ → ℕ → ℕ → List ℤ
rows_from M k a n = flat_map (λ i. map (M i) (range_with_len 0 k)) (range_with_len a n)

module _ (M : Matrix) (k : ℕ) where
  rows_more : (a n : ℕ) → rows_from M k a (n + 1) ≡ rows_from M k a n ++ map (M (a + n)) (range_with_len 0 k)
  rows_more a zero = let e : a ≡ a + 0 = omega arith in append-nil (map (M a) (range_with_len 0 k)) ∙ ap (λ (b : ℕ). map (M b) (range_with_len 0 k)) e
  rows_more a (suc n) =
      let e : suc n + 1 ≡ suc (n + 1) = omega arith in
      let f : a + 1 + n ≡ a + suc n = omega arith in
      ap (rows_from M k a) e
      ∙ ap (λ (v : List ℤ). map (M a) (range_with_len 0 k) ++ v) (rows_more (a + 1) n ∙ ap (λ (b : ℕ). rows_from M k (a + 1) n ++ map (M b) (range_with_len 0 k)) f)
      ∙ sym (append_assoc (map (M a) (range_with_len 0 k)) (rows_from M k (a + 1) n) (map (M (a + suc n)) (range_with_len 0 k)))

  rows_long : (a n : ℕ) → length (rows_from M k a n) ≡ n * k
  rows_long a zero = omega arith
  rows_long a (suc n) =
      length-append (map (M a) (range_with_len 0 k)) (rows_from M k (a + 1) n)
      ∙ omega (arith, length-map-range_with_len (M a) 0 k, rows_long (a + 1) n, add-one n, add-mul n 1 k)

  rows_at : (a n i j : ℕ) → i < n → j < k → places (rows_from M k a n) (i * k + j) ≡ M (a + i) j
  rows_at a zero i j l m = absurd (omega arith)
  rows_at a (suc n) zero j l m =
      let e : 0 * k + j ≡ j = omega arith in
      let f : a ≡ a + 0 = omega arith in
      ap (places (rows_from M k a (suc n))) e
      ∙ get_or_append_left (map (M a) (range_with_len 0 k)) (rows_from M k (a + 1) n) (pos 0) j (omega (arith, length-map-range_with_len (M a) 0 k))
      ∙ get_or-map-range_with_len (M a) 0 k j j (pos 0) m (omega arith)
      ∙ ap (λ (b : ℕ). M b j) f
  rows_at a (suc n) (suc i) j l m =
      let e : suc i * k + j ≡ k + (i * k + j) = omega (arith, add-one i, add-mul i 1 k) in
      let f : a + 1 + i ≡ a + suc i = omega arith in
      let g : k + (i * k + j) - k ≡ i * k + j = omega arith in
      ap (places (rows_from M k a (suc n))) e
      ∙ get_or-append_right (map (M a) (range_with_len 0 k)) (rows_from M k (a + 1) n) k (k + (i * k + j)) (pos 0) (length-map-range_with_len (M a) 0 k) (omega arith)
      ∙ ap (places (rows_from M k (a + 1) n)) g
      ∙ rows_at (a + 1) n i j (omega arith) m
      ∙ ap (λ (b : ℕ). M b j) f

-- one number more at the end of a row
pub row_none : (f : Vector) (xs ys : List ℤ) → ys ≡ xs → ys ≡ xs ++ map f (range_with_len 0 0)
row_none f xs ys e = e ∙ sym (append-nil xs)

pub row_more : (f : Vector) (xs ys zs : List ℤ) (x : ℤ) (j : ℕ) → ys ≡ xs ++ map f (range_with_len 0 j) → zs ≡ ys ++ x ∷ [] → x ≡ f j →
    zs ≡ xs ++ map f (range_with_len 0 (j + 1))
row_more f xs ys zs x j inv e here =
    let m = map-range_with_len_more f 0 j j (omega arith) in
    e
    ∙ ap (λ (v : List ℤ). v ++ x ∷ []) inv
    ∙ append_assoc xs (map f (range_with_len 0 j)) (x ∷ [])
    ∙ ap (λ (y : ℤ). xs ++ (map f (range_with_len 0 j) ++ y ∷ [])) here
    ∙ ap (λ (v : List ℤ). xs ++ v) (sym m)

pub row_fits : (f : Vector) (xs ys : List ℤ) (j n room : ℕ) → ys ≡ xs ++ map f (range_with_len 0 j) → j < n → length xs + n ≤ room → length ys < room
row_fits f xs ys j n room e l h =
    omega (arith, ap length e, length-append xs (map f (range_with_len 0 j)), length-map-range_with_len f 0 j)

-- one row more at the end of a list
pub listed_none : (k : ℕ) (M : Matrix) (xs : List ℤ) → xs ≡ [] → xs ≡ listed 0 k M
unfolding listed
listed_none k M xs e = e

pub listed_more : (n k : ℕ) (M : Matrix) (xs ys : List ℤ) → xs ≡ listed n k M → ys ≡ xs ++ map (M n) (range_with_len 0 k) → ys ≡ listed (n + 1) k M
unfolding listed
listed_more n k M xs ys inv e =
    let f : n ≡ 0 + n = omega arith in
    e ∙ ap (λ (v : List ℤ). v ++ map (M n) (range_with_len 0 k)) inv ∙ ap (λ (b : ℕ). rows_from M k 0 n ++ map (M b) (range_with_len 0 k)) f ∙ sym (rows_more M k 0 n)

pub listed_long : (n k : ℕ) (M : Matrix) → length (listed n k M) ≡ n * k
unfolding listed
listed_long n k M = rows_long M k 0 n

pub listed_at : (n k : ℕ) (M : Matrix) (i j : ℕ) → i < n → j < k → by_rows k (listed n k M) i j ≡ M i j
unfolding listed
listed_at n k M i j l m = let f : 0 + i ≡ i = omega arith in rows_at M k 0 n i j l m ∙ ap (λ (b : ℕ). M b j) f

pub listed_rows : (n k : ℕ) (M : Matrix) (xs : List ℤ) → xs ≡ listed n k M → RowByRow n k M xs
listed_rows n k M xs e =
    record { long = ap length e ∙ listed_long n k M; numbers = λ i j l m. ap (λ (ys : List ℤ). by_rows k ys i j) e ∙ listed_at n k M i j l m }

-- there is room for one row more
pub listed_fits : (i n k room : ℕ) (M : Matrix) (xs : List ℤ) → xs ≡ listed i k M → i < n → n * k ≤ room → length xs + k ≤ room
listed_fits i n k room M xs e l h =
    omega (arith, ap length e, listed_long i k M, mul-le-mul {n₁ = suc i} {m₁ = k} {n₂ = n} {m₂ = k} (omega arith) (le_refl k), add-mul i 1 k, add-one i)

-- rows with a number are no more than the room for their numbers
no_number : (n : ℕ) (M : Matrix) → listed n 0 M ≡ []
no_number n M = nil_from_length (listed n 0 M) (listed_long n 0 M ∙ omega arith)

pub listed_held : (n k room : ℕ) (M : Matrix) → n * k ≤ room → listed (min n room) k M ≡ listed n k M
listed_held n zero room M h = no_number (min n room) M ∙ sym (no_number n M)
listed_held n (suc k) room M h =
    let e : min n room ≡ n = omega (arith, mul-le-mul {n₁ = n} {m₁ = 1} {n₂ = n} {m₂ = suc k} (le_refl n) (omega arith)) in
    ap (λ (i : ℕ). listed i (suc k) M) e

-- the same numbers make the same list
map_same : (f g : Vector) → ((k : ℕ) → f k ≡ g k) → (ks : List ℕ) → map f ks ≡ map g ks
map_same f g h [] = refl
map_same f g h (k ∷ ks) = ap (λ (x : ℤ). x ∷ map f ks) (h k) ∙ ap (λ (xs : List ℤ). g k ∷ xs) (map_same f g h ks)

pub listed_same : (n k : ℕ) (M N : Matrix) → ((i j : ℕ) → M i j ≡ N i j) → listed n k M ≡ listed n k N
unfolding listed
listed_same n k M N h = rows (range_with_len 0 n)
  where
    rows : (is : List ℕ) → flat_map (λ i. map (M i) (range_with_len 0 k)) is ≡ flat_map (λ i. map (N i) (range_with_len 0 k)) is
    rows [] = refl
    rows (i ∷ is) =
        ap (λ (v : List ℤ). v ++ flat_map (λ i. map (M i) (range_with_len 0 k)) is) (map_same (M i) (N i) (h i) (range_with_len 0 k))
        ∙ ap (λ (v : List ℤ). map (N i) (range_with_len 0 k) ++ v) (rows is)

-- small numbers make a list of small numbers
module _ (b : ℕ) where
  abbrev Small : List ℤ → Type 0
  Small xs = (k : ℕ) → nat_abs (places xs k) ≤ b

  small_append : (xs ys : List ℤ) → Small xs → Small ys → Small (xs ++ ys)
  small_append [] ys hx hy k = hy k
  small_append (x ∷ xs) ys hx hy zero = hx 0
  small_append (x ∷ xs) ys hx hy (suc k) = small_append xs ys (λ i. hx (suc i)) hy k

  small_map : (f : Vector) → ((k : ℕ) → nat_abs (f k) ≤ b) → (ks : List ℕ) → Small (map f ks)
  small_map f h [] k = omega arith
  small_map f h (i ∷ ks) zero = h i
  small_map f h (i ∷ ks) (suc k) = small_map f h ks k

  small_joined : (f : ℕ → List ℤ) → ((i : ℕ) → Small (f i)) → (is : List ℕ) → Small (flat_map f is)
  small_joined f h [] k = omega arith
  small_joined f h (i ∷ is) k = small_append (f i) (flat_map f is) (h i) (small_joined f h is) k

  pub listed_within : (n k : ℕ) (M : Matrix) → ((i j : ℕ) → nat_abs (M i j) ≤ b) → all_within b (listed n k M) ≡ true
  unfolding listed
  listed_within n k M h =
      all_from (λ i. within b (places (listed n k M) i)) (length (listed n k M))
      (λ i _. le-leb _ _ (small_joined (λ i. map (M i) (range_with_len 0 k)) (λ i. small_map (M i) (h i) (range_with_len 0 k)) (range_with_len 0 n) i))
