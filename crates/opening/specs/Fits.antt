-- When two tables and six lists make a plan.
use Rattle.std.specs.Prelude.{◌≡◌, ℕ, ◌*◌, ◌<◌, ◌≤◌, true, ◌⊎◌, List, length, ℤ, ◌≤ℤ◌, is_some, None, Option, unsigned_abs}
use Rattle.duality.specs.Convex.{Symmetric, SlipHolds, Convex}
use Rattle.duality.specs.Lists.{places, by_rows}
use Rattle.table.specs.Grid.{Grid, height_of, width_of, place_of, matrix_of}
use Rattle.opening.specs.Opening.{Numbers}
use Rattle.opening.specs.declared.refusal.Refusal.{Refusal}

-- as many ropes as G has rows, as many rows as A has
pub record Sized (g a : Grid) : Type 0 where
  pub some_ropes : 0 < height_of g
  pub few_ropes : height_of g ≤ 16
  pub square : width_of g ≡ height_of g
  pub few_rows : height_of a ≤ 32
  pub across : (height_of a ≡ 0) ⊎ (width_of a ≡ height_of g)

-- a number at each place, within ±limit
abbrev pub Filled : ℕ → Grid → Type 0
Filled limit t = (i j : ℕ) → i < height_of t → j < width_of t → (is_some (place_of t i j) ≡ true) × (unsigned_abs (matrix_of t i j) ≤ limit)

-- for n ropes and m rows
pub record Long (n m : ℕ) (x : Numbers) : Type 0 where
  pub c : length x.c ≡ n
  pub l : length x.l ≡ n
  pub u : length x.u ≡ n
  pub lo : length x.lo ≡ m
  pub hi : length x.hi ≡ m
  pub slip : length x.slip ≡ n * n

abbrev pub Near : ℕ → List ℤ → Type 0
Near limit xs = (k : ℕ) → k < length xs → unsigned_abs (places xs k) ≤ limit

pub record Limited (x : Numbers) : Type 0 where
  pub c : Near 268435456 x.c
  pub l : Near 32768 x.l
  pub u : Near 32768 x.u
  pub lo : Near 536870912 x.lo
  pub hi : Near 536870912 x.hi
  pub slip : Near 131072 x.slip

abbrev pub Ordered : List ℤ → List ℤ → Type 0
Ordered lows highs = (k : ℕ) → k < length lows → places lows k ≤ℤ places highs k

pub record Fits (g a : Grid) (x : Numbers) : Type 0 where
  pub sized : Sized g a
  pub curved : Filled 4096 g
  pub lined : Filled 1024 a
  pub symmetric : Symmetric (height_of g) (matrix_of g)
  pub long : Long (height_of g) (height_of a) x
  pub limited : Limited x
  pub bounds_open : Ordered x.l x.u
  pub limits_open : Ordered x.lo x.hi
  pub slip_holds : SlipHolds (height_of g) (matrix_of g) (by_rows (height_of g) x.slip)

-- Law: there is no fault exactly where everything fits, and then the cost is convex.
pub record TellsFit (g a : Grid) (x : Numbers) (fault : Option Refusal) : Type 0 where
  pub fits : fault ≡ None → Fits g a x
  pub only : Fits g a x → fault ≡ None
  pub convex : fault ≡ None → Convex (height_of g) (matrix_of g)
