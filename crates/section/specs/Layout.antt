-- Where the sections of a card lie, for n ropes and m rows.
use Rattle.std.specs.Prelude.{◌≡◌, ℕ, ◌+◌, ◌-◌, ◌*◌, ◌/◌, ◌<◌, ◌≤◌, min, Some, None, Option}
use Rattle.block.specs.declared.kind.Kind.{Kind}
use Rattle.block.specs.declared.kind.Kind.TheVariants.{Head, Curvature, Rows, Costs, Bounds, Limits, Slip}
use Rattle.section.specs.declared.sizes.Sizes.{Sizes}

-- the fewest blocks that hold `count` numbers, 126 to a block
abbrev pub blocks_for : ℕ → ℕ
blocks_for count = (count + 125) / 126

-- how many numbers a section has
abbrev pub count_of : Kind → ℕ → ℕ → ℕ
count_of Head n m = 2
count_of Curvature n m = n * n
count_of Rows n m = m * n
count_of Costs n m = n
count_of Bounds n m = 2 * n
count_of Limits n m = 2 * m
count_of Slip n m = n * n

-- the number of a section's first block: the sections follow one another without a gap
abbrev pub first_of : Kind → ℕ → ℕ → ℕ
first_of Head n m = 0
first_of Curvature n m = 1
first_of Rows n m = 1 + blocks_for (n * n)
first_of Costs n m = 1 + blocks_for (n * n) + blocks_for (m * n)
first_of Bounds n m = 1 + blocks_for (n * n) + blocks_for (m * n) + blocks_for n
first_of Limits n m = 1 + blocks_for (n * n) + blocks_for (m * n) + blocks_for n + blocks_for (2 * n)
first_of Slip n m = 1 + blocks_for (n * n) + blocks_for (m * n) + blocks_for n + blocks_for (2 * n) + blocks_for (2 * m)

-- how many blocks a card has
abbrev pub blocks_in : ℕ → ℕ → ℕ
blocks_in n m = first_of Slip n m + blocks_for (n * n)

-- 1 to 16 ropes and up to 32 rows
pub record InRange (n m : ℕ) : Type 0 where
  pub some : 1 ≤ n
  pub few : n ≤ 16
  pub short : m ≤ 32

-- sizes are made of numbers in range, and of no others
abbrev pub Sized : Option Sizes → ℕ → ℕ → Type 0
Sized None n m = InRange n m → ⊥
Sized (Some s) n m = (s.ropes ≡ n) × (s.rows ≡ m) × InRange n m

-- the same for sizes as a value
abbrev pub start_of : Sizes → Kind → ℕ
start_of s kind = first_of kind s.ropes s.rows

abbrev pub numbers_for : Sizes → Kind → ℕ
numbers_for s kind = count_of kind s.ropes s.rows

abbrev pub bytes_for : Sizes → ℕ
bytes_for s = blocks_in s.ropes s.rows * 512

-- the section has block b of a card of n ropes and m rows
pub record HasBlock (kind : Kind) (n m b : ℕ) : Type 0 where
  pub from : first_of kind n m ≤ b
  pub to : b < first_of kind n m + blocks_for (count_of kind n m)

-- how many numbers of the section block b holds
abbrev pub used_in : Kind → ℕ → ℕ → ℕ → ℕ
used_in kind n m b = min 126 (count_of kind n m - (b - first_of kind n m) * 126)
