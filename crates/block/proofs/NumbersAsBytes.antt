-- The round trip of a block, on lists.
use Rattle.std.proofs.Common.{◌≡◌, ℕ, zero, suc, ◌+◌, ◌*◌, ◌%◌, ◌<◌, ◌≤◌, Bool, true, false, cond, eqb, List, [], ◌∷◌, ◌++◌, map, length, get_or, take, drop, replicate, ℤ, pos, Some, None, sym, refl, ap, ◌∙◌, arith, w32, SFits, to_z, of_z}
use Rattle.std.specs.List.{flat_map, range_with_len}
use Rattle.std.proofs.lemmas.List.{drop_more, get_or-append-add, append_assoc, length-append}
use Rattle.std.proofs.lemmas.Bool.{eqb-true}
use Rattle.block.specs.Bytes.{num, bytes4}
use Rattle.block.specs.Checks.{first_set}
use Rattle.block.proofs.LittleEndian.{four_back, num_back}

pub drop_four : (bs : List ℕ) (p : ℕ) → p + 4 ≤ length bs → drop p bs ≡ get_or bs p 0 ∷ get_or bs (p + 1) 0 ∷ get_or bs (p + 2) 0 ∷ get_or bs (p + 3) 0 ∷ drop (p + 4) bs
drop_four bs p h =
    let e₁ : drop (p + 1) bs ≡ get_or bs (p + 1) 0 ∷ drop (p + 2) bs = drop_more bs (p + 1) 0 (omega arith) ∙ ap (λ n. get_or bs (p + 1) 0 ∷ drop n bs) (omega arith) in
    let e₂ : drop (p + 2) bs ≡ get_or bs (p + 2) 0 ∷ drop (p + 3) bs = drop_more bs (p + 2) 0 (omega arith) ∙ ap (λ n. get_or bs (p + 2) 0 ∷ drop n bs) (omega arith) in
    let e₃ : drop (p + 3) bs ≡ get_or bs (p + 3) 0 ∷ drop (p + 4) bs = drop_more bs (p + 3) 0 (omega arith) ∙ ap (λ n. get_or bs (p + 3) 0 ∷ drop n bs) (omega arith) in
    drop_more bs p 0 (omega arith)
    ∙ ap (λ r. get_or bs p 0 ∷ r) (e₁ ∙ ap (λ r. get_or bs (p + 1) 0 ∷ r) (e₂ ∙ ap (λ r. get_or bs (p + 2) 0 ∷ r) e₃))

-- the bytes of the numbers that bytes write are those bytes
pub numbers_bytes : (bs : List ℕ) → ((k : ℕ) → get_or bs k 0 < 256) → (n j : ℕ) → 4 + j * 4 + n * 4 ≤ length bs
    → flat_map bytes4 (map (λ i. num bs (4 + i * 4)) (range_with_len j n)) ≡ take (n * 4) (drop (4 + j * 4) bs)
numbers_bytes bs small zero j h = refl
numbers_bytes bs small (suc n) j h =
    let p : ℕ = 4 + j * 4 in
    let here : bytes4 (num bs p) ≡ get_or bs p 0 ∷ get_or bs (p + 1) 0 ∷ get_or bs (p + 2) 0 ∷ get_or bs (p + 3) 0 ∷ []
    = four_back (get_or bs p 0) (get_or bs (p + 1) 0) (get_or bs (p + 2) 0) (get_or bs (p + 3) 0) (small p) (small (p + 1)) (small (p + 2)) (small (p + 3)) in
    let next : 4 + (j + 1) * 4 ≡ p + 4 = omega arith in
    let more : suc n * 4 ≡ suc (suc (suc (suc (n * 4)))) = omega arith in
    let rest : flat_map bytes4 (map (λ i. num bs (4 + i * 4)) (range_with_len (j + 1) n)) ≡ take (n * 4) (drop (p + 4) bs)
    = numbers_bytes bs small n (j + 1) (omega arith) ∙ ap (λ q. take (n * 4) (drop q bs)) next in
    ap (λ t. bytes4 (num bs p) ++ t) rest
    ∙ (ap (λ t. t ++ take (n * 4) (drop (p + 4) bs)) here
    ∙ sym (ap (λ m. take m (drop p bs)) more ∙ ap (take (suc (suc (suc (suc (n * 4)))))) (drop_four bs p (omega arith))))

-- bytes of which none is set are all 0, and the other way round
pub none_set : (k : ℕ) (xs : List ℕ) → first_set k xs ≡ None → xs ≡ replicate (length xs) 0
none_set k [] e = refl
none_set k (x ∷ xs) e = none_at (eqb x 0) refl e (none_set (k + 1) xs) where
  none_at : (t : Bool) → t ≡ eqb x 0 → cond t (first_set (k + 1) xs) (Some k) ≡ None → (first_set (k + 1) xs ≡ None → xs ≡ replicate (length xs) 0) → x ∷ xs ≡ replicate (suc (length xs)) 0
  none_at true p q rest = let z : x ≡ 0 = eqb-true x 0 (sym p) in let r : xs ≡ replicate (length xs) 0 = rest q in cc
  none_at false p q rest = let z : ◌≡◌ {A = ℕ} 0 1 = cc in absurd (omega arith)

pub zeros_none : (k m : ℕ) → first_set k (replicate m 0) ≡ None
zeros_none k zero = refl
zeros_none k (suc m) = zeros_none (k + 1) m

-- zero numbers are zero bytes
pub zero_numbers : (m : ℕ) → flat_map bytes4 (replicate m (pos 0)) ≡ replicate (m * 4) 0
zero_numbers zero = refl
zero_numbers (suc m) =
    let more : suc m * 4 ≡ suc (suc (suc (suc (m * 4)))) = omega arith in
    ap (λ r. 0 ∷ 0 ∷ 0 ∷ 0 ∷ r) (zero_numbers m) ∙ sym (ap (λ n. replicate n 0) more)

pub joined4_append : (xs ys : List ℤ) → flat_map bytes4 (xs ++ ys) ≡ flat_map bytes4 xs ++ flat_map bytes4 ys
joined4_append [] ys = refl
joined4_append (x ∷ xs) ys = ap (λ r. bytes4 x ++ r) (joined4_append xs ys)

-- the numbers that are read out of the bytes of numbers are those
pub read_back : (zs : List ℤ) → ((k : ℕ) → k < length zs → SFits w32 (get_or zs k (pos 0))) → (front rest : List ℕ) (j : ℕ) → length front ≡ 4 + j * 4
    → map (λ i. num (front ++ (flat_map bytes4 zs ++ rest)) (4 + i * 4)) (range_with_len j (length zs)) ≡ zs
read_back [] fits front rest j h = refl
read_back (z ∷ zs) fits front rest j h =
    let tail : List ℕ = flat_map bytes4 zs ++ rest in
    let xs : List ℕ = front ++ (bytes4 z ++ tail) in
    let p : ℕ = 4 + j * 4 in
    let at : (i : ℕ) → get_or xs (p + i) 0 ≡ get_or (bytes4 z ++ tail) i 0 = λ i. ap (λ n. get_or xs (n + i) 0) (sym h) ∙ get_or-append-add front (bytes4 z ++ tail) i 0 in
    let at0 : get_or xs p 0 ≡ of_z w32 z % 256 = ap (λ n. get_or xs n 0) (omega arith) ∙ at 0 in
    let a1 = at 1 in
    let a2 = at 2 in
    let a3 = at 3 in
    let head : num xs p ≡ z = ap (to_z w32) (rw (at0, a1, a2, a3)) ∙ num_back z (fits 0 (omega arith)) in
    let again : xs ≡ (front ++ bytes4 z) ++ tail = sym (append_assoc front (bytes4 z) tail) in
    let longer : length (front ++ bytes4 z) ≡ 4 + (j + 1) * 4 = omega (arith, length-append front (bytes4 z)) in
    let more : map (λ i. num xs (4 + i * 4)) (range_with_len (j + 1) (length zs)) ≡ zs
    = ap (λ l. map (λ i. num l (4 + i * 4)) (range_with_len (j + 1) (length zs))) again ∙ read_back zs (λ k l. fits (suc k) (omega arith)) (front ++ bytes4 z) rest (j + 1) longer in
    cc
