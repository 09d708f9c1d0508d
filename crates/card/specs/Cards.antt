-- A card as it is made of sizes and numbers, and the numbers of a card.
use Rattle.std.specs.Prelude.{ℕ, zero, suc, ◌+◌, ◌*◌, List, [], ◌∷◌, ◌++◌, take, drop, ℤ, pos}
use Rattle.std.proofs.Math.Seq.{paste}
use Rattle.block.specs.Blocks.{block_of}
use Rattle.block.specs.declared.kind.Kind.{Kind}
use Rattle.block.specs.declared.kind.Kind.TheVariants.{Curvature, Rows, Costs, Bounds, Limits, Slip}
use Rattle.section.specs.declared.sizes.Sizes.{Sizes}
use Rattle.block.specs.Kinds.{letter_of}
use Rattle.section.specs.Layout.{blocks_for, count_of, first_of, start_of, numbers_for}

-- b blocks under one letter from block k on: 126 numbers to a block
abbrev pub laid : ℕ → ℕ → List ℤ → ℕ → List ℕ
laid letter k nums zero = []
laid letter k nums (suc b) = block_of letter k (take 126 nums) ++ laid letter (k + 1) (drop 126 nums) b

unfoldable pub section_of : ℕ → ℕ → (Kind → List ℤ) → Kind → List ℕ
section_of n m nums kind = laid (letter_of kind) (first_of kind n m) (nums kind) (blocks_for (count_of kind n m))

-- a list of bytes with a run of blocks written into it, or a section
abbrev pub run_into : List ℕ → ℕ → ℕ → List ℤ → ℕ → List ℕ
run_into out letter k nums b = paste out (k * 512) (laid letter k nums b) (b * 512)

abbrev pub section_into : Sizes → Kind → List ℕ → List ℤ → List ℕ
section_into s kind out nums = run_into out (letter_of kind) (start_of s kind) nums (blocks_for (numbers_for s kind))

-- the head block
abbrev pub head_of : ℕ → ℕ → List ℕ
head_of n m = block_of 72 0 (pos n ∷ pos m ∷ [])

-- the card of n ropes and m rows whose sections have these numbers
unfoldable pub card_of : ℕ → ℕ → (Kind → List ℤ) → List ℕ
card_of n m nums =
    head_of n m ++ (section_of n m nums Curvature ++ (section_of n m nums Rows ++ (section_of n m nums Costs
    ++ (section_of n m nums Bounds ++ (section_of n m nums Limits ++ section_of n m nums Slip)))))
