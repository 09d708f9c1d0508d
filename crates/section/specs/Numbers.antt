-- The numbers of a card's sections.
use Rattle.std.specs.Prelude.{◌≡◌, ℕ, zero, suc, ◌+◌, ◌-◌, ◌*◌, ◌<◌, min, List, [], ◌++◌, length, ℤ, pos, Some, None, Option, slice_index_or}
use Rattle.block.specs.Blocks.{block_at, numbers_of}
use Rattle.block.specs.declared.kind.Kind.{Kind}
use Rattle.section.specs.Layout.{blocks_for, count_of, first_of, blocks_in}
use Rattle.section.specs.Sections.{Part, value_at}

-- the `count` numbers in b blocks from block k on
abbrev pub numbers_from : List ℕ → ℕ → ℕ → ℕ → List ℤ
numbers_from card k count zero = []
numbers_from card k count (suc b) = numbers_of (block_at card k) (min count 126) ++ numbers_from card (k + 1) (count - 126) b

-- the numbers of a section
unfoldable pub numbers_in : List ℕ → ℕ → ℕ → Kind → List ℤ
numbers_in card n m kind = numbers_from card (first_of kind n m) (count_of kind n m) (blocks_for (count_of kind n m))

-- on a card of full length, the section that is found at its own first block has the section's numbers
abbrev pub Located : List ℕ → ℕ → ℕ → ℕ → Option Part → Type 0
Located card first n m None = Unit {0}
Located card first n m (Some s) =
    length card ≡ blocks_in n m * 512 → first ≡ first_of s.kind n m
    → (q : ℕ) → q < count_of s.kind n m → value_at s.bytes q ≡ Some (slice_index_or (numbers_in card n m s.kind) q (pos 0))
