-- The first fault of what a plan is to be opened from: two tables, G and A, and six lists of numbers.
use Rattle.std.specs.Prelude.{◌≡◌, ℕ, ◌*◌, ◌≤◌, Bool, true, false, cond, ◌&&◌, ◌||◌, List, length, ℤ, ◌*ℤ◌, Some, None, Option, ◌==◌, int_le, nat_le, nat_lt}
use Rattle.std.specs.Option.{option_or, option_map}
use Rattle.duality.specs.Convex.{remainder, around}
use Rattle.duality.specs.Lists.{places, by_rows}
use Rattle.duality.specs.Sums.{Matrix, ∑}
use Rattle.duality.specs.Tests.{first_not, within, all_within}
use Rattle.table.specs.Grid.{Grid, height_of, width_of, place_of, matrix_of}
use Rattle.opening.specs.Firsts.{first_of}
use Rattle.opening.specs.declared.lists.Lists.{Lists}
use Rattle.opening.specs.declared.refusal.List.{List as Name}
use Rattle.opening.specs.declared.refusal.List.TheVariants as name
use Rattle.opening.specs.declared.refusal.Refusal.{Refusal}
use Rattle.opening.specs.declared.refusal.Refusal.TheVariants.{Sizes, Place, Asymmetric, Length, Limit, Slip}

-- the numbers of the six lists
pub record Numbers : Type 0 where
  pub c : List ℤ
  pub l : List ℤ
  pub u : List ℤ
  pub lo : List ℤ
  pub hi : List ℤ
  pub slip : List ℤ

abbrev pub numbers_of : Lists → Numbers
numbers_of x = record { c = x.c.now; l = x.l.now; u = x.u.now; lo = x.lo.now; hi = x.hi.now; slip = x.slip.now }

-- sizes: G has a row and a column for each of 1 to 16 ropes, and A up to 32 rows, as wide as there are ropes unless it has none

abbrev pub is_square : Grid → Bool
is_square g = nat_lt 0 (height_of g) && nat_le (height_of g) 16 && width_of g == height_of g

abbrev pub is_lined : ℕ → Grid → Bool
is_lined n a = nat_le (height_of a) 32 && (height_of a == 0 || width_of a == n)

abbrev pub size_fault : Bool → Grid → Option Refusal
size_fault fits t = cond fits None (Some (Sizes (height_of t) (width_of t)))

abbrev pub sizes_fault : Grid → Grid → Option Refusal
sizes_fault g a = option_or (size_fault (is_square g) g) (size_fault (is_lined (height_of g) a) a)

-- places: no blank, and no number beyond the limit

abbrev pub is_number : ℕ → Option ℤ → Bool
is_number limit None = false
is_number limit (Some x) = within limit x

abbrev pub line_fault : ℕ → Grid → ℕ → Option Refusal
line_fault limit t i = option_map (Place i) (first_not (λ j. is_number limit (place_of t i j)) (width_of t))

abbrev pub places_fault : ℕ → Grid → Option Refusal
places_fault limit t = first_of (line_fault limit t) (height_of t)

-- symmetry of G

abbrev pub same : ℤ → ℤ → Bool
same x y = int_le x y && int_le y x

abbrev pub mirror_fault : Grid → ℕ → Option Refusal
mirror_fault g i = option_map (Asymmetric i) (first_not (λ j. same (matrix_of g i j) (matrix_of g j i)) (width_of g))

abbrev pub symmetry_fault : Grid → Option Refusal
symmetry_fault g = first_of (mirror_fault g) (height_of g)

abbrev pub tables_fault : Grid → Grid → Option Refusal
tables_fault g a = option_or (option_or (places_fault 4096 g) (places_fault 1024 a)) (symmetry_fault g)

-- lists: their lengths, then the limits of their numbers, then that no lower number lies above the upper one

abbrev pub length_fault : Name → ℕ → List ℤ → Option Refusal
length_fault list n xs = cond (length xs == n) None (Some (Length list))

abbrev pub lengths_fault : ℕ → ℕ → Numbers → Option Refusal
lengths_fault n m x =
    option_or (option_or (option_or (option_or (option_or
    (length_fault name.Costs n x.c)
    (length_fault name.LowerBounds n x.l))
    (length_fault name.UpperBounds n x.u))
    (length_fault name.LowerLimits m x.lo))
    (length_fault name.UpperLimits m x.hi))
    (length_fault name.Slip (n * n) x.slip)

abbrev pub limit_fault : Name → ℕ → List ℤ → Option Refusal
limit_fault list limit xs = option_map (Limit list) (first_not (λ k. within limit (places xs k)) (length xs))

abbrev pub limits_fault : Numbers → Option Refusal
limits_fault x =
    option_or (option_or (option_or (option_or (option_or
    (limit_fault name.Costs 268435456 x.c)
    (limit_fault name.LowerBounds 32768 x.l))
    (limit_fault name.UpperBounds 32768 x.u))
    (limit_fault name.LowerLimits 536870912 x.lo))
    (limit_fault name.UpperLimits 536870912 x.hi))
    (limit_fault name.Slip 131072 x.slip)

abbrev pub order_fault : Name → List ℤ → List ℤ → Option Refusal
order_fault lower lows highs = option_map (Limit lower) (first_not (λ k. int_le (places lows k) (places highs k)) (length lows))

abbrev pub orders_fault : Numbers → Option Refusal
orders_fault x = option_or (order_fault name.LowerBounds x.l x.u) (order_fault name.LowerLimits x.lo x.hi)

-- the slip: each place R_ii is at least the sum of |R_ij| beside it

-- a slip of n rows and columns, with its numbers in their limit
pub record SlipNumbers (n : ℕ) (slip : List ℤ) : Type 0 where
  pub few : n ≤ 16
  pub long : length slip ≡ n * n
  pub near : all_within 131072 slip ≡ true

-- LᵀL
abbrev pub gram_of : ℕ → Matrix → Matrix
gram_of n L i j = ∑ n (λ k. L k i *ℤ L k j)

abbrev pub dominates : ℕ → Matrix → ℕ → Bool
dominates n R i = int_le (around n R i) (R i i)

abbrev pub slip_fault : ℕ → Matrix → List ℤ → Option Refusal
slip_fault n G slip = option_map Slip (first_not (dominates n (remainder n G (by_rows n slip))) n)

-- all of it, in this order

abbrev pub open_fault : Grid → Grid → Numbers → Option Refusal
open_fault g a x =
    option_or (sizes_fault g a)
    (option_or (tables_fault g a)
    (option_or (lengths_fault (height_of g) (height_of a) x)
    (option_or (limits_fault x)
    (option_or (orders_fault x)
    (slip_fault (height_of g) (matrix_of g) x.slip)))))
