-- A block: 512 bytes that hold up to 126 signed numbers under a letter and a block number, closed by a check sum.
use Rattle.std.specs.Prelude.{ℕ, ◌+◌, ◌-◌, ◌*◌, ◌%◌, ◌<◌, cond, List, [], ◌∷◌, ◌++◌, map, length, take, drop, replicate, ℤ, pos, Some, None, Option, FitsSigned, nat_le, slice_index_or}
use Rattle.std.specs.Int.{w32}
use Rattle.std.specs.List.{flat_map, range_with_len}
use Rattle.block.specs.declared.block.Block.{Block}
use Rattle.block.specs.Bytes.{num, bytes2, bytes4}

-- the sum of (k + 1) × byte k, where the list's first byte is byte k
abbrev pub weighed : ℕ → List ℕ → ℕ
weighed k [] = 0
weighed k (b ∷ bs) = (k + 1) * b + weighed (k + 1) bs

-- the check sum that the first 510 bytes of a block ask for
abbrev pub check_of : List ℕ → ℕ
check_of block = weighed 0 (take 510 block) % 65521

-- the 126 numbers of a block that is given fewer: 0 after them
abbrev pub filled : List ℤ → List ℤ
filled nums = nums ++ replicate (126 - length nums) (pos 0)

-- a block up to its check sum: the letter, a zero, the block number, 126 numbers, two zeros
unfoldable pub body_of : ℕ → ℕ → List ℤ → List ℕ
body_of letter number nums = (letter ∷ 0 ∷ []) ++ (bytes2 number ++ (flat_map bytes4 (filled nums) ++ (0 ∷ 0 ∷ [])))

-- the block of up to 126 numbers
unfoldable pub block_of : ℕ → ℕ → List ℤ → List ℕ
block_of letter number nums = body_of letter number nums ++ bytes2 (weighed 0 (body_of letter number nums) % 65521)

-- the first `used` numbers of a block
unfoldable pub numbers_of : List ℕ → ℕ → List ℤ
numbers_of block used = map (λ j. num block (4 + j * 4)) (range_with_len 0 used)

-- the 512 bytes of block k of a card
abbrev pub block_at : List ℕ → ℕ → List ℕ
block_at card k = take 512 (drop (k * 512) card)

-- what the card has of block k: all of it, or nothing
abbrev pub whole_at : List ℕ → ℕ → Option (List ℕ)
whole_at card k = cond (nat_le (k * 512 + 512) (length card)) (Some (block_at card k)) None

-- the bytes of a block that may be missing
abbrev pub bytes_of : Option Block → Option (List ℕ)
bytes_of None = None
bytes_of (Some b) = Some b.bytes.now

-- each number fits four bytes
abbrev pub Fit : List ℤ → Type 0
Fit nums = (k : ℕ) → k < length nums → FitsSigned w32 (slice_index_or nums k (pos 0))
