-- What it means that a block passes and that a fault of it is named, by what stands at which byte: laws over the checks.
use Rattle.std.specs.Prelude.{◌≡◌, ℕ, ◌+◌, ◌*◌, ◌<◌, ◌≤◌, ◌⊎◌, ◌↔◌, List, Ok, Err, ◌≢◌, slice_index}
use Rattle.block.specs.declared.fault.Fault.TheVariants.{Length, CheckSum, Name, Sizes, Spare, Short}
use Rattle.block.specs.Bytes.{le16}
use Rattle.block.specs.Blocks.{check_of, block_of, numbers_of}
use Rattle.block.specs.Checks.{Verdict}

-- the last two bytes are the check sum of the first 510
abbrev pub Summed : List ℕ → Type 0
Summed block = le16 block 510 ≡ check_of block

-- byte 0 is the letter, and bytes 2 and 3 are the block number
abbrev pub Named : List ℕ → ℕ → ℕ → Type 0
Named block letter number = (slice_index block 0 ≡ letter) × (le16 block 2 ≡ number)

-- byte k of a block of `used` numbers holds neither name, number nor check sum
abbrev pub IsSpare : ℕ → ℕ → Type 0
IsSpare used k = (k ≡ 1) ⊎ ((4 + used * 4 ≤ k) × (k < 510))

-- the spare bytes are 0
abbrev pub Clean : List ℕ → ℕ → Type 0
Clean block used = (k : ℕ) → IsSpare used k → slice_index block k ≡ 0

-- byte k is the first spare byte that is not 0
pub record FirstSet (block : List ℕ) (used k : ℕ) : Type 0 where
  pub spare : IsSpare used k
  pub set : slice_index block k ≢ 0
  pub first : (i : ℕ) → i < k → IsSpare used i → slice_index block i ≡ 0

-- a block passes with all spare bytes 0, and is refused at the first of them that is not
pub record FirstSpare (block : List ℕ) (number used : ℕ) (verdict : Verdict) : Type 0 where
  pub clean : verdict ≡ Ok tt → (k : ℕ) → IsSpare used k → slice_index block k ≡ 0
  pub spare : (k : ℕ) → verdict ≡ Err (Spare number k) → IsSpare used k
  pub set : (k : ℕ) → verdict ≡ Err (Spare number k) → slice_index block k ≢ 0
  pub first : (k : ℕ) → verdict ≡ Err (Spare number k) → (i : ℕ) → i < k → IsSpare used i → slice_index block i ≡ 0

-- what each answer says of a block that is to hold `used` numbers under this letter and number
abbrev pub Says : List ℕ → ℕ → ℕ → ℕ → Verdict → Type 0
Says block letter number used (Ok u) = Summed block × Named block letter number × Clean block used
Says block letter number used (Err (CheckSum b)) = (b ≡ number) × (Summed block → ⊥)
Says block letter number used (Err (Name b)) = (b ≡ number) × Summed block × (Named block letter number → ⊥)
Says block letter number used (Err (Spare b k)) = (b ≡ number) × Summed block × Named block letter number × FirstSet block used k
Says block letter number used (Err (Length n)) = ⊥
Says block letter number used (Err (Sizes n)) = ⊥
Says block letter number used (Err (Short n)) = ⊥

-- Law: an answer is given exactly where what it says is so.
abbrev pub Rightly : (Verdict → Type 0) → Verdict → Type 0
Rightly Says answer = (v : Verdict) → (answer ≡ v) ↔ Says v

-- of up to 126 numbers, exactly the block that is made of them passes
pub record Exact (block : List ℕ) (letter number used : ℕ) (verdict : Verdict) : Type 0 where
  pub made : used ≤ 126 → verdict ≡ Ok tt → block ≡ block_of letter number (numbers_of block used)
  pub passes : used ≤ 126 → block ≡ block_of letter number (numbers_of block used) → verdict ≡ Ok tt
