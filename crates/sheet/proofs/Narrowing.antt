-- Numbers of eight bytes that four bytes hold.
use Rattle.std.proofs.Common.{◌≡◌, ℕ, ◌+◌, ◌*◌, ◌/◌, ◌%◌, ◌<◌, ◌≤◌, List, [], ◌∷◌, ◌++◌, length, get_or, take, ℤ, pos, nat_abs, sym, subst, ap, ⊎_elim, ◌∙◌, arith, w32, w64, SFits, to_z, of_z}
use Rattle.duality.specs.Sums.{Matrix}
use Rattle.table.specs.Grid.{Grid, matrix_of}
use Rattle.table.proofs.Bounds.{matrix_near}
use Rattle.opening.specs.Fits.{Near}
use Rattle.reading.specs.Plain.{listed}
use Rattle.reading.proofs.Listed.{listed_at, listed_long}
use Rattle.std.proofs.lemmas.Nat.{div-add-mod', div_below, mod_below}
use Rattle.std.proofs.lemmas.List.{append_assoc, take_more}
use Rattle.std.proofs.lemmas.Bool.{cases_lt}
use Rattle.std.proofs.lemmas.Int.{ints, to_z-of_z}

-- what four bytes hold of a number
abbrev pub narrow : ℤ → ℤ
narrow z = to_z w32 (of_z w32 (to_z w64 (of_z w64 z)))

narrow_back : (z : ℤ) → nat_abs z ≤ 536870912 → narrow z ≡ z
narrow_back z h =
    let f : SFits w64 z = omega (arith, ints) in
    let g : SFits w32 z = omega (arith, ints) in
    ap (λ (v : ℤ). to_z w32 (of_z w32 v)) (to_z-of_z w64 z f) ∙ to_z-of_z w32 z g

narrow_fits : (z : ℤ) → nat_abs z ≤ 536870912 → SFits w32 (to_z w64 (of_z w64 z))
narrow_fits z h =
    let f : SFits w64 z = omega (arith, ints) in
    let g : SFits w32 z = omega (arith, ints) in
    simp to_z-of_z g

pub narrow_fit : (xs : List ℤ) → Near 536870912 xs → (k : ℕ) (z : ℤ) → k < length xs → z ≡ get_or xs k (pos 0) → SFits w32 (to_z w64 (of_z w64 z))
narrow_fit xs near k z below e = narrow_fits z (subst (λ y. nat_abs y ≤ 536870912) (sym e) (near k below))

-- one number more of a list
pub narrow_more : (xs ys all new : List ℤ) (i : ℕ) (z : ℤ) → Near 536870912 all → ys ≡ xs ++ take i all → i < length all → new ≡ ys ++ narrow z ∷ [] → z ≡ get_or all i (pos 0)
    → new ≡ xs ++ take (i + 1) all
narrow_more xs ys all new i z near inv below e at =
    e
    ∙ (ap (λ (v : List ℤ). v ++ narrow z ∷ []) inv
    ∙ (append_assoc xs (take i all) (narrow z ∷ [])
    ∙ ap (λ (v : List ℤ). xs ++ v)
    (ap (λ (y : ℤ). take i all ++ y ∷ []) (narrow_back z (subst (λ (y : ℤ). nat_abs y ≤ 536870912) (sym at) (near i below)) ∙ at) ∙ sym (take_more all i (pos 0) below))))

-- the numbers of a table are near enough
pub near_listed : (n k : ℕ) (g : Grid) → Near 536870912 (listed n k (matrix_of g))
near_listed n k g q h =
    let M : Matrix = matrix_of g in
    let less : q < n * k = omega (arith, h, listed_long n k (matrix_of g)) in
    let some : 0 < k = ⊎_elim (λ (p : 0 < k). p) (λ (z : k ≤ 0). let none : k ≡ 0 = omega arith in let zero : n * k ≡ 0 = ap (λ (i : ℕ). n * i) none ∙ omega arith in absurd (omega arith)) (cases_lt 0 k) in
    let i : q / k < n = div_below q k n some less in
    let j : q % k < k = mod_below q k some in
    let near = matrix_near g (q / k) (q % k) in
    subst (λ (z : ℤ). nat_abs z ≤ 536870912)
    (sym (listed_at n k (matrix_of g) (q / k) (q % k) i j) ∙ ap (λ (p : ℕ). get_or (listed n k (matrix_of g)) p (pos 0)) (div-add-mod' q k))
    (omega (arith, near))
