-- What an elimination does, column by column, and how it ends: relations between lines, on lines of any length.
use Rattle.std.specs.Prelude.{◌≡◌, ◌≢◌, ℕ, suc, ◌+◌, ◌<◌, ◌≤◌, ◌⊎◌, Bool, true, false, List, [], ◌∷◌, map, length, slice_index_or, Some, None, Option, Float}
use Rattle.std.specs.List.{All, Contains}
use Rattle.std.specs.Float.{◌<ᶠ◌, ◌≤ᶠ◌, binary64}
use Rattle.std.specs.Float.Ieee.{div}
use Rattle.elimination.specs.Lines.{at, lose, size_of, smallest, largest, unknown_of, inside}
use Rattle.elimination.specs.declared.pivots.Pivot.{Pivot}

abbrev pub line_at : List (List Float) → ℕ → List Float
line_at ls i = slice_index_or ls i []

-- the size of line i's entry in column k
abbrev pub size_at : List (List Float) → ℕ → ℕ → Float
size_at ls k i = size_of (at (line_at ls i) k)

-- Line i has the pivot of column k: from line k down no size is larger than its own, and none before it is as large. What is no number is never larger.
pub record HasPivot (ls : List (List Float)) (k i : ℕ) : Type 0 where
  pub below : k ≤ i
  pub within : i < length ls
  pub largest : (j : ℕ) → k ≤ j → j < length ls → ¬ (size_at ls k i <ᶠ size_at ls k j)
  pub first : (j : ℕ) → k ≤ j → j < i → ¬ (size_at ls k i ≤ᶠ size_at ls k j)

-- a size strictly between 2 ^ -20 and 2 ^ 60
abbrev pub Takable : Float → Type 0
Takable s = (smallest <ᶠ s) × (s <ᶠ largest)

-- p is the pivot of column k, and can be taken
pub record Takes (ls : List (List Float)) (k : ℕ) (p : Pivot) : Type 0 where
  pub place : HasPivot ls k p.place
  pub size : p.size ≡ size_at ls k p.place
  pub takable : Takable p.size

-- column k has no pivot that can be taken
abbrev pub HasNone : List (List Float) → ℕ → Type 0
HasNone ls k = (i : ℕ) → HasPivot ls k i → ¬ Takable (size_at ls k i)

-- ys is the line xs cleared of column k by the pivot's line ps: behind column k, and before place w, each place loses f times that of ps, where f is the entry over the pivot
pub record ClearedBy (w k : ℕ) (ps xs ys : List Float) : Type 0 where
  pub long : length ys ≡ length xs
  pub loses : (c : ℕ) → k < c → c < w → c < length xs → at ys c ≡ lose (div binary64 (at xs k) (at ps k)) (at xs c) (at ps c)
  pub stays : (c : ℕ) → (c ≤ k) ⊎ (w ≤ c) → at ys c ≡ at xs c

-- Column k done by its pivot in line p: that line trades places with line k, and each line below is cleared by it.
pub record Clears (w k p : ℕ) (ls ms : List (List Float)) : Type 0 where
  pub long : length ms ≡ length ls
  pub above : (i : ℕ) → i < k → line_at ms i ≡ line_at ls i
  pub pivot : line_at ms k ≡ line_at ls p
  pub traded : k < p → ClearedBy w k (line_at ls p) (line_at ls k) (line_at ms p)
  pub below : (i : ℕ) → k < i → i < length ls → i ≢ p → ClearedBy w k (line_at ls p) (line_at ls i) (line_at ms i)

-- The columns from k on, one after another, lead from lines ls to lines ms: each has a pivot that can be taken, and is done by it.
abbrev pub Lead : ℕ → ℕ → List Pivot → List (List Float) → List (List Float) → Type 0
Lead w k [] ls ms = ls ≡ ms
Lead w k (p ∷ ps) ls ms = Takes ls k p × ((vs : List (List Float)) × (Clears w k p.place ls vs × Lead w (suc k) ps vs ms))

abbrev pub sizes : List Pivot → List Float
sizes ps = map (λ p. p.size) ps

-- t is the least of some sizes: one of them, and none of them smaller
pub record Least (xs : List Float) (t : Float) : Type 0 where
  pub among : Contains xs t
  pub least : All (λ x. ¬ (x <ᶠ t)) xs

-- xs are the unknowns of the lines from line k to the last, line n - 1: each is what its line gives once those after it are known, and lies strictly inside the bound
abbrev pub Unknowns : ℕ → ℕ → List (List Float) → List Float → Type 0
Unknowns n k ls [] = k ≡ n
Unknowns n k ls (x ∷ xs) = (x ≡ unknown_of n k (line_at ls k) xs) × (inside x ≡ true) × Unknowns n (suc k) ls xs

-- some unknown does not lie strictly inside the bound, where all after it do
abbrev pub Outside : ℕ → List (List Float) → Type 0
Outside n ls = (k : ℕ) × ((k < n) × ((xs : List Float) × (Unknowns n (suc k) ls xs × (inside (unknown_of n k (line_at ls k) xs) ≡ false))))

-- The columns of lines ls, from the first, as far as they can be done: the lines are then ms, and t is the least of s and the sizes of the pivots.
pub record Triangular (s : Float) (ls ms : List (List Float)) (t : Float) (whole : Bool) : Type 0 where
  pub pivots : List Pivot
  pub columns : Lead (length ls + 1) 0 pivots ls ms
  pub size : Least (s ∷ sizes pivots) t
  pub all : whole ≡ true → length pivots ≡ length ls
  pub stuck : whole ≡ false → (length pivots < length ls) × HasNone ms (length pivots)

-- the unknowns from line k on, or nothing where one lies outside
abbrev pub Answered : ℕ → ℕ → List (List Float) → Option (List Float) → Type 0
Answered n k ls (Some xs) = Unknowns n k ls xs
Answered n k ls None = Outside n ls

-- How it ends, where c of n columns were done and the lines are then ms: with the unknowns, or stuck at a column or at an unknown.
abbrev pub Ends : ℕ → ℕ → List (List Float) → Option (List Float) → Type 0
Ends n c ms (Some xs) = (c ≡ n) × Unknowns n 0 ms xs
Ends n c ms None = ((c < n) × HasNone ms c) ⊎ ((c ≡ n) × Outside n ms)

-- The lines ls, where s is the smallest size so far, are led to the lines ms by the pivots of their columns, the smallest size is then t, and us are the unknowns, or nothing.
pub record Elimination (s : Float) (ls ms : List (List Float)) (t : Float) (us : Option (List Float)) : Type 0 where
  pub pivots : List Pivot
  pub columns : Lead (length ls + 1) 0 pivots ls ms
  pub size : Least (s ∷ sizes pivots) t
  pub end : Ends (length ls) (length pivots) ms us

-- Law: a system of at most 32 unknowns has such an elimination, and none that leaves other lines, has another answer or a smallest size that is less or more.
-- A larger system is stuck, and nothing is done.
pub record Eliminates (s : Float) (ls ms : List (List Float)) (t : Float) (us : Option (List Float)) : Type 0 where
  pub run : length ls ≤ 32 → Elimination s ls ms t us
  pub only : (ns : List (List Float)) (u : Float) (vs : Option (List Float)) → length ls ≤ 32 → Elimination s ls ns u vs → (ns ≡ ms) × (vs ≡ us) × (¬ (u <ᶠ t)) × (¬ (t <ᶠ u))
  pub large : 32 < length ls → (us ≡ None) × (ms ≡ ls) × (t ≡ s)
