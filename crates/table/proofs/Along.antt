-- Along a row, place by place: the running sum, and that it fits.
use Rattle.std.proofs.Common.{◌≡◌, ℕ, ◌+◌, ◌*◌, ◌^◌, ◌<◌, ◌≤◌, true, List, ℤ, pos, ◌+ℤ◌, ◌*ℤ◌, nat_abs, is_some, Some, None, Option, unwrap_or, sym, ap, ◌∙◌, add-one, arith, w64, SFits}
use Rattle.std.proofs.lemmas.Bool.{false≢true}
use Rattle.duality.specs.Sums.{∑}
use Rattle.duality.specs.Lists.{places}
use Rattle.table.specs.Grid.{Grid, place_of, matrix_of}
use Rattle.table.proofs.Integers.{abs_add, abs_mul_le, fits_below}
use Rattle.table.proofs.Bounds.{sum_near}

-- the sum over the first n places of row i
abbrev pub sum_to : Grid → ℕ → List ℤ → ℕ → ℤ
sum_to g i xs n = ∑ n (λ j. matrix_of g i j *ℤ places xs j)

pub term_fits : (n x : ℤ) → nat_abs n ≤ 1048576 → nat_abs x ≤ 1073741824 → SFits w64 (n *ℤ x)
term_fits n x p q = let m = abs_mul_le n x 1048576 1073741824 p q in fits_below (n *ℤ x) (omega arith)

pub sum_fits : (g : Grid) (i j : ℕ) (xs : List ℤ) (s t n x : ℤ) → s ≡ sum_to g i xs j → t ≡ n *ℤ x → ((k : ℕ) → k < j → nat_abs (places xs k) ≤ 1073741824) → j ≤ 64
    → nat_abs n ≤ 1048576 → nat_abs x ≤ 1073741824 → SFits w64 (s +ℤ t)
sum_fits g i j xs s t n x e d near short p q =
    let m = abs_mul_le n x 1048576 1073741824 p q in
    let b = sum_near g i j xs near in
    let bs : nat_abs s ≤ j * 2 ^ 50 = rw e b in
    let bt : nat_abs t ≤ 2 ^ 50 = rw d m in
    let a = abs_add s t in
    fits_below (s +ℤ t) (omega arith)

pub sum_more : (g : Grid) (i j : ℕ) (xs : List ℤ) (s t n : ℤ) → s ≡ sum_to g i xs j → t ≡ n *ℤ places xs j → Some n ≡ place_of g i j → s +ℤ t ≡ sum_to g i xs (j + 1)
sum_more g i j xs s t n e d p =
    let v : n ≡ matrix_of g i j = ap (λ (o : Option ℤ). unwrap_or o (pos 0)) p in
    let q : ∑ (j + 1) (λ j. matrix_of g i j *ℤ places xs j) ≡ sum_to g i xs j +ℤ matrix_of g i j *ℤ places xs j = rw add-one in
    cc

-- one more place that is no blank
pub some_more : (o : Option ℤ) (n : ℤ) → Some n ≡ o → is_some o ≡ true
some_more o n e = ap is_some (sym e)

pub none_not : (o : Option ℤ) → None ≡ o → is_some o ≡ true → ⊥
none_not o e t = false≢true (ap is_some e ∙ t)
