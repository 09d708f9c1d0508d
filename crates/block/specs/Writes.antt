-- A block that is put in its place on a card.
use Rattle.std.specs.Prelude.{◌≡◌, ℕ, ◌+◌, ◌*◌, min, Bool, List, length, take, ℤ, Ok, nat_le}
use Rattle.std.proofs.Math.Seq.{paste}
use Rattle.block.specs.Blocks.{block_at, numbers_of}
use Rattle.block.specs.Checks.{block_check}

-- a card has all of block k
abbrev pub has_block : List ℕ → ℕ → Bool
has_block card k = nat_le (k * 512 + 512) (length card)

-- a card with its block k replaced
abbrev pub put_block : List ℕ → ℕ → List ℕ → List ℕ
put_block card k block = paste card (k * 512) block 512

-- Law: block k of the card passes its check under this letter, and has the first 126 of the numbers, or all.
pub record Stands (card : List ℕ) (letter k : ℕ) (nums : List ℤ) : Type 0 where
  pub passes : block_check (block_at card k) letter k (min 126 (length nums)) ≡ Ok tt
  pub reads : numbers_of (block_at card k) (min 126 (length nums)) ≡ take 126 nums
