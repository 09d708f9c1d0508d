-- Every answer keeps to its limit.
use Rattle.std.proofs.Common.{◌≡◌, ℕ, ◌*◌, ◌^◌, ◌<◌, ◌≤◌, Bool, true, ◌&&◌, ltb, List, length, ℤ, pos, negsuc, ◌*ℤ◌, nat_abs, Some, None, Decides, Option, unwrap_or, arith}
use Rattle.std.proofs.lemmas.Bool.{leb-true, cond_both}
use Rattle.duality.specs.Sums.{∑}
use Rattle.duality.specs.Lists.{places}
use Rattle.duality.proofs.Tests.{all_at, all_from}
use Rattle.table.specs.Grid.{Grid, cut, height_of, width_of, limited, place_of, matrix_of}
use Rattle.duality.specs.Tests.{within, all, all_within}
use Rattle.table.specs.Laws.{Bounded}
use Rattle.table.proofs.Integers.{abs_mul_le, abs_sum}

pub cut_below : (z : ℤ) → cut z ≤ 64
cut_below (pos n) = omega arith
cut_below (negsuc n) = omega arith

pub every_decides : (p : ℕ → Bool) (n : ℕ) → Decides (all p n) ((k : ℕ) → k < n → p k ≡ true)
every_decides p n = (λ e k h. all_at p n k e h, all_from p n)

limited_near : (o : Option ℤ) → Bounded 1048576 (limited o)
limited_near None = tt
limited_near (Some z) = cond_both (within 1048576 z) (Some z) None (Bounded 1048576) (λ e. leb-true _ _ e) (λ e. tt)

pub place_near : (g : Grid) (i j : ℕ) → Bounded 1048576 (place_of g i j)
place_near g i j = cond_both (ltb i (height_of g) && ltb j (width_of g)) (limited (g.cell i j)) None (Bounded 1048576) (λ e. limited_near (g.cell i j)) (λ e. tt)

pub matrix_near : (g : Grid) (i j : ℕ) → nat_abs (matrix_of g i j) ≤ 1048576
matrix_near g i j = near (place_of g i j) (place_near g i j)
  where
    near : (o : Option ℤ) → Bounded 1048576 o → nat_abs (unwrap_or o (pos 0)) ≤ 1048576
    near None b = omega arith
    near (Some z) b = b

pub list_near : (m : ℕ) (xs : List ℤ) (j : ℕ) → all_within m xs ≡ true → j < length xs → nat_abs (places xs j) ≤ m
list_near m xs j e h = leb-true _ _ ((every_decides (λ k. within m (places xs k)) (length xs)).0 e j h)

-- a sum over the first n places of a row, whose list numbers keep to their limit
pub sum_near : (g : Grid) (i n : ℕ) (xs : List ℤ) → ((j : ℕ) → j < n → nat_abs (places xs j) ≤ 1073741824) → nat_abs (∑ n (λ j. matrix_of g i j *ℤ places xs j)) ≤ n * 2 ^ 50
sum_near g i n xs h = abs_sum (λ j. matrix_of g i j *ℤ places xs j) (2 ^ 50) n (λ j l. abs_mul_le (matrix_of g i j) (places xs j) 1048576 1073741824 (matrix_near g i j) (h j l))
