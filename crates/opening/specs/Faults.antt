-- What a fault says of the tables and lists that were handed in.
use Rattle.std.specs.Prelude.{◌≡◌, ℕ, ◌*◌, ◌<◌, ◌⊎◌, List, length, ℤ, ◌<ℤ◌, IfSome, None, Option, unsigned_abs}
use Rattle.duality.specs.Convex.{remainder, around}
use Rattle.duality.specs.Lists.{places, by_rows}
use Rattle.duality.specs.Sums.{Matrix}
use Rattle.table.specs.Grid.{Grid, height_of, width_of, place_of, matrix_of}
use Rattle.opening.specs.Fits.{Sized}
use Rattle.opening.specs.Opening.{Numbers}
use Rattle.opening.specs.declared.refusal.List.{List as Name}
use Rattle.opening.specs.declared.refusal.List.TheVariants.{Costs, LowerBounds, UpperBounds, LowerLimits, UpperLimits}
use Rattle.opening.specs.declared.refusal.List.TheVariants as name
use Rattle.opening.specs.declared.refusal.Refusal.{Refusal}
use Rattle.opening.specs.declared.refusal.Refusal.TheVariants.{
  Card,
  Sizes,
  Place,
  Asymmetric,
  Length,
  Limit,
  Slip,
  OfferLength,
  OfferLimit,
  Bound,
  Row,
  NoProof,
  NoSuch,
  Amendment,
}

abbrev pub list_of : Numbers → Name → List ℤ
list_of x Costs = x.c
list_of x LowerBounds = x.l
list_of x UpperBounds = x.u
list_of x LowerLimits = x.lo
list_of x UpperLimits = x.hi
list_of x name.Slip = x.slip

-- how many numbers each list has, for n ropes and m rows
abbrev pub length_for : ℕ → ℕ → Name → ℕ
length_for n m Costs = n
length_for n m LowerBounds = n
length_for n m UpperBounds = n
length_for n m LowerLimits = m
length_for n m UpperLimits = m
length_for n m name.Slip = n * n

abbrev pub limit_for : Name → ℕ
limit_for Costs = 268435456
limit_for LowerBounds = 32768
limit_for UpperBounds = 32768
limit_for LowerLimits = 536870912
limit_for UpperLimits = 536870912
limit_for name.Slip = 131072

-- a list with lower numbers has one above the upper one at this place
abbrev pub Above : Numbers → Name → ℕ → Type 0
Above x Costs k = ⊥
Above x LowerBounds k = places x.u k <ℤ places x.l k
Above x UpperBounds k = ⊥
Above x LowerLimits k = places x.hi k <ℤ places x.lo k
Above x UpperLimits k = ⊥
Above x name.Slip k = ⊥

-- the table has a blank there, or a number beyond ±limit
pub record Unfilled (limit : ℕ) (t : Grid) (i j : ℕ) : Type 0 where
  pub high : i < height_of t
  pub wide : j < width_of t
  pub at : (place_of t i j ≡ None) ⊎ (limit < unsigned_abs (matrix_of t i j))

pub record HasSizes (t : Grid) (height width : ℕ) : Type 0 where
  pub high : height_of t ≡ height
  pub wide : width_of t ≡ width

-- above the diagonal, since rows are looked through from the first
pub record Unlike (g : Grid) (i j : ℕ) : Type 0 where
  pub above : i < j
  pub inside : j < height_of g
  pub at : matrix_of g i j ≡ matrix_of g j i → ⊥

pub record Beyond (x : Numbers) (list : Name) (k : ℕ) : Type 0 where
  pub inside : k < length (list_of x list)
  pub at : (limit_for list < unsigned_abs (places (list_of x list) k)) ⊎ Above x list k

pub record Outweighed (n : ℕ) (R : Matrix) (i : ℕ) : Type 0 where
  pub inside : i < n
  pub at : R i i <ℤ around n R i

-- what is named is at fault; the other refusals are none of opening's
abbrev pub AtFault : Grid → Grid → Numbers → Refusal → Type 0
AtFault g a x (Card fault) = ⊥
AtFault g a x (Sizes height width) = (HasSizes g height width ⊎ HasSizes a height width) × (Sized g a → ⊥)
AtFault g a x (Place i j) = Unfilled 4096 g i j ⊎ Unfilled 1024 a i j
AtFault g a x (Asymmetric i j) = Unlike g i j
AtFault g a x (Length list) = length (list_of x list) ≡ length_for (height_of g) (height_of a) list → ⊥
AtFault g a x (Limit list k) = Beyond x list k
AtFault g a x (Slip i) = Outweighed (height_of g) (remainder (height_of g) (matrix_of g) (by_rows (height_of g) x.slip)) i
AtFault g a x (OfferLength needed) = ⊥
AtFault g a x (OfferLimit index) = ⊥
AtFault g a x (Bound rope) = ⊥
AtFault g a x (Row row) = ⊥
AtFault g a x NoProof = ⊥
AtFault g a x (NoSuch index) = ⊥
AtFault g a x (Amendment index) = ⊥

-- Law: a fault that is named is one.
abbrev pub Truly : Grid → Grid → Numbers → Option Refusal → Type 0
Truly g a x r = IfSome r (AtFault g a x)
