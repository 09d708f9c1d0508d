-- The checks of one block, each with the fault that it finds.
use Rattle.std.specs.Prelude.{ℕ, ◌+◌, ◌*◌, Bool, not, cond, List, [], ◌∷◌, take, drop, Some, None, Ok, Err, Option, Result, ◌==◌, slice_index}
use Rattle.block.specs.declared.fault.Fault.{Fault}
use Rattle.block.specs.declared.fault.Fault.TheVariants.{CheckSum, Name, Spare}
use Rattle.block.specs.Bytes.{le16}
use Rattle.block.specs.Blocks.{check_of}

abbrev pub Verdict : Type 0
Verdict = Result (Unit {0}) Fault

-- one check after another: the second counts where the first passes
abbrev pub and_then : Verdict → Verdict → Verdict
and_then (Ok u) v = v
and_then (Err f) v = Err f

-- a byte is not 0
abbrev pub is_set : ℕ → Bool
is_set b = not (b == 0)

-- the first byte of a list that is not 0, where the list's first byte is byte k
abbrev pub first_set : ℕ → List ℕ → Option ℕ
first_set k [] = None
first_set k (b ∷ bs) = cond (b == 0) (first_set (k + 1) bs) (Some k)

-- the first spare byte that is not 0: byte 1, then those from the end of the `used` numbers up to the check sum
abbrev pub spare_in : List ℕ → ℕ → Option ℕ
spare_in block used = cond (slice_index block 1 == 0) (first_set (4 + used * 4) (drop (4 + used * 4) (take 510 block))) (Some 1)

abbrev pub no_spare : ℕ → Option ℕ → Verdict
no_spare number None = Ok tt
no_spare number (Some k) = Err (Spare number k)

-- the check sum is that of the bytes before it
abbrev pub sum_check : List ℕ → ℕ → Verdict
sum_check block number = cond (le16 block 510 == check_of block) (Ok tt) (Err (CheckSum number))

-- the block has this letter and this number
abbrev pub name_check : List ℕ → ℕ → ℕ → Verdict
name_check block letter number =
    cond (slice_index block 0 == letter) (cond (le16 block 2 == number) (Ok tt) (Err (Name number))) (Err (Name number))

-- no spare byte is set
abbrev pub spare_check : List ℕ → ℕ → ℕ → Verdict
spare_check block number used = no_spare number (spare_in block used)

-- a block of `used` numbers: its check sum, then its letter and number, then its spare bytes
abbrev pub block_check : List ℕ → ℕ → ℕ → ℕ → Verdict
block_check block letter number used =
    and_then (sum_check block number) (and_then (name_check block letter number) (spare_check block number used))
