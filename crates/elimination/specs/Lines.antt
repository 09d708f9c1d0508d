-- Gaussian elimination over the rounded operations of binary64, on lists of lines.
-- A line of a system of n unknowns has n coefficients, and then its right side.
use Rattle.std.specs.Prelude.{◌≡◌, ℕ, zero, suc, ◌+◌, ◌-◌, ◌<◌, Bool, true, false, cond, ◌&&◌, pos, negsuc, Some, None, Option, nat_le, Float}
use Rattle.std.specs.Prelude.{List, [], ◌∷◌, ◌++◌, map, length, take, drop, replicate, slice_index_or, slice_set}
use Rattle.std.specs.Float.Ieee.{sub, mul, div, lt}
use Rattle.std.specs.Float.{float_with_sign, nan, fin, binary64}

abbrev pub none : Float
none = fin false 0 (pos 0)

-- a pivot lies strictly between these: 2 ^ -20 and 2 ^ 60
abbrev pub smallest : Float
smallest = fin false 1 (negsuc 19)

abbrev pub largest : Float
largest = fin false 1 (pos 60)

-- what stands at place k
abbrev pub at : List Float → ℕ → Float
at xs k = slice_index_or xs k nan

-- x without f times y: the product is rounded, then the difference
abbrev pub lose : Float → Float → Float → Float
lose f x y = sub binary64 x (mul binary64 f y)

-- each place of a line without f times that place of another
abbrev pub less : Float → List Float → List Float → List Float
less f [] ys = []
less f (x ∷ xs) [] = x ∷ xs
less f (x ∷ xs) (y ∷ ys) = lose f x y ∷ less f xs ys

-- a line below the pivot's, cleared of column k: the places up to k stay
abbrev pub cleared : ℕ → List Float → List Float → List Float
cleared k p xs = take (k + 1) xs ++ less (div binary64 (at xs k) (at p k)) (drop (k + 1) xs) (drop (k + 1) p)

-- the first w places of each line: lines are kept longer than a small system needs
abbrev pub seen : ℕ → List (List Float) → List (List Float)
seen w ls = map (take w) ls

-- the absolute value
abbrev pub size_of : Float → Float
size_of x = float_with_sign false x

-- Down the lines, of which the first is line i: the place and the size of the first of the largest entries of column k, or what was there before.
abbrev pub pick : ℕ → ℕ → ℕ → Float → List (List Float) → ℕ × Float
pick k i p s [] = (p, s)
pick k i p s (xs ∷ ls) = pick k (suc i) (cond (lt s (size_of (at xs k))) i p) (cond (lt s (size_of (at xs k))) (size_of (at xs k)) s) ls

-- the pivot of column k: its line and its size
abbrev pub pivot_of : ℕ → List (List Float) → ℕ × Float
pivot_of k ls = pick k k k none (drop k ls)

-- the lines below line k, cleared of column k by its first w places
abbrev pub cleared_below : ℕ → ℕ → List (List Float) → List (List Float)
cleared_below w k ls = take (k + 1) ls ++ map (cleared k (take w (slice_index_or ls k []))) (drop (k + 1) ls)

-- lines i and j in each other's place
abbrev pub traded : ℕ → ℕ → List (List Float) → List (List Float)
traded i j ls = slice_set (slice_set ls i (slice_index_or ls j [])) j (slice_index_or ls i [])

abbrev pub takable : Float → Bool
takable s = lt smallest s && lt s largest

-- the lines once column k is done by its pivot: the pivot's line trades places with line k and clears the lines below
abbrev pub column_done : ℕ → ℕ → List (List Float) → List (List Float)
column_done w k ls = cleared_below w k (traded k (pivot_of k ls).0 ls)

-- column k: the size of its pivot and the lines then, or nothing beside the lines as they were where no pivot can be taken
abbrev pub column_tried : ℕ → ℕ → List (List Float) → Option Float × List (List Float)
column_tried w k ls = cond (takable (pivot_of k ls).1) (Some (pivot_of k ls).1, column_done w k ls) (None, ls)

abbrev pub lesser : Float → Float → Float
lesser s t = cond (lt t s) t s

-- What becomes of the lines: whether each column was done, the least size of a pivot, and how they are left.
pub record Triangle : Type 0 where
  pub whole : Bool
  pub least : Float
  pub lines : List (List Float)

-- m columns from column k on, until one has no pivot: the size is the least of s and those of the pivots taken
abbrev pub columns_done : ℕ → ℕ → ℕ → Float → List (List Float) → Triangle
columns_done w zero k s ls = record { whole = true; least = s; lines = ls }
columns_done w (suc m) k s ls =
    cond (takable (pivot_of k ls).1) (columns_done w m (suc k) (lesser s (pivot_of k ls).1) (column_done w k ls)) (record { whole = false; least = s; lines = ls })

-- The right side b without each coefficient times its unknown, in rising order.
abbrev pub rest : Float → List Float → List Float → Float
rest b cs [] = b
rest b [] (x ∷ xs) = b
rest b (c ∷ cs) (x ∷ xs) = rest (lose c b x) cs xs

-- the unknown of line k, of n coefficients, where xs are those after it
abbrev pub unknown_of : ℕ → ℕ → List Float → List Float → Float
unknown_of n k line xs = div binary64 (rest (at line n) (drop (k + 1) line) xs) (at line k)

-- an unknown lies strictly within this, 2 ^ 30, either way
abbrev pub bound : Float
bound = fin false 1 (pos 30)

abbrev pub inside : Float → Bool
inside x = lt (size_of x) bound

abbrev pub joined_to : Float → List Float → Option (List Float)
joined_to x xs = cond (inside x) (Some (x ∷ xs)) None

abbrev pub one_more : ℕ → ℕ → List Float → Option (List Float) → Option (List Float)
one_more n k line None = None
one_more n k line (Some xs) = joined_to (unknown_of n k line xs) xs

-- the unknowns of the lines from line k on, found from the last up
abbrev pub unknowns_of : ℕ → ℕ → List (List Float) → Option (List Float)
unknowns_of n k [] = Some []
unknowns_of n k (line ∷ ls) = one_more n k line (unknowns_of n (suc k) ls)

-- A system of as many unknowns as lines, brought to the triangle.
abbrev pub triangle_of : Float → List (List Float) → Triangle
triangle_of s ls = columns_done (length ls + 1) (length ls) 0 s ls

abbrev pub with_unknowns : ℕ → Triangle → Float × Option (List Float)
with_unknowns n t = (t.least, cond t.whole (unknowns_of n 0 t.lines) None)

-- A system solved: the least of s and the sizes of the pivots taken, and the unknowns, or nothing where the system is stuck.
unfoldable pub solved : Float → List (List Float) → Float × Option (List Float)
solved s ls = with_unknowns (length ls) (triangle_of s ls)

-- the lines that it leaves
unfoldable pub left : Float → List (List Float) → List (List Float)
left s ls = (triangle_of s ls).lines

-- The same of lines of 33 places: a larger system has no pivot.
abbrev pub solved_in : Float → List (List Float) → Float × Option (List Float)
solved_in s ls = cond (nat_le (length ls) 32) (solved s ls) (s, None)

abbrev pub left_in : Float → List (List Float) → List (List Float)
left_in s ls = cond (nat_le (length ls) 32) (left s ls) ls

-- filled up with 0 to 32 places
abbrev pub padded : List Float → List Float
padded xs = xs ++ replicate (32 - length xs) none

-- Law: where a system is solved, there is an unknown for each line, strictly inside the bound.
abbrev pub Solves : ℕ → Option (List Float) → Type 0
Solves n None = Unit {0}
Solves n (Some us) = (length us ≡ n) × ((k : ℕ) → k < length us → inside (at us k) ≡ true)
