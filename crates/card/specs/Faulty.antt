-- What it means that a card passes and that a fault of it is named, by what stands at which byte: a law over the check.
-- The check takes the length, then the head, then the length that n and m ask for, then every other block in turn.
use Rattle.std.specs.Prelude.{◌≡◌, ℕ, ◌*◌, ◌<◌, ◌≤◌, ◌⊎◌, List, length, pos, Ok, Err}
use Rattle.block.specs.declared.fault.Fault.TheVariants.{Length, CheckSum, Name, Sizes, Spare, Short}
use Rattle.block.specs.Bytes.{num}
use Rattle.block.specs.Blocks.{block_at}
use Rattle.block.specs.Checks.{Verdict}
use Rattle.block.specs.Kinds.{letter_of}
use Rattle.block.specs.Laws.{Summed, Named, Clean, FirstSet}
use Rattle.block.specs.declared.kind.Kind.{Kind}
use Rattle.section.specs.Layout.{InRange, HasBlock, used_in, blocks_in}
use Rattle.card.specs.Faults.{n_of, m_of}

-- 1 to 15 whole blocks
abbrev pub Whole : List ℕ → Type 0
Whole card = (blocks : ℕ) × (1 ≤ blocks) × (blocks ≤ 15) × (length card ≡ blocks * 512)

-- as many blocks as n and m ask for
abbrev pub Full : List ℕ → Type 0
Full card = length card ≡ blocks_in (n_of card) (m_of card) * 512

-- the head's two numbers, n and m, are in range
pub record Sizable (card : List ℕ) : Type 0 where
  pub ropes : num card 4 ≡ pos (n_of card)
  pub rows : num card 8 ≡ pos (m_of card)
  pub range : InRange (n_of card) (m_of card)

-- block b has the letter of the section that has it, and its own number
abbrev pub NamedAt : List ℕ → ℕ → Type 0
NamedAt card b = (kind : Kind) → HasBlock kind (n_of card) (m_of card) b → Named (block_at card b) (letter_of kind) b

-- the spare bytes of block b are 0
abbrev pub CleanAt : List ℕ → ℕ → Type 0
CleanAt card b = (kind : Kind) → HasBlock kind (n_of card) (m_of card) b → Clean (block_at card b) (used_in kind (n_of card) (m_of card) b)

-- byte k of block b is its first spare byte that is not 0
abbrev pub FirstSetAt : List ℕ → ℕ → ℕ → Type 0
FirstSetAt card b k = (kind : Kind) → HasBlock kind (n_of card) (m_of card) b → FirstSet (block_at card b) (used_in kind (n_of card) (m_of card) b) k

-- block b passes; the head, block 0, has sizes too
pub record BlockPasses (card : List ℕ) (b : ℕ) : Type 0 where
  pub summed : Summed (block_at card b)
  pub named : NamedAt card b
  pub sizes : b ≡ 0 → Sizable card
  pub clean : CleanAt card b

-- block b is there, and nothing is wrong before it
pub record Reached (card : List ℕ) (b : ℕ) : Type 0 where
  pub whole : Whole card
  pub there : b * 512 < length card
  pub full : 1 ≤ b → Full card
  pub before : (k : ℕ) → k < b → BlockPasses card k

-- what each answer says of a card
abbrev pub Says : List ℕ → Verdict → Type 0
Says card (Ok u) = Whole card × Full card × ((b : ℕ) → b * 512 < length card → BlockPasses card b)
Says card (Err (Length n)) = (n ≡ length card) × ((Whole card → ⊥) ⊎ (Whole card × BlockPasses card 0 × (Full card → ⊥)))
Says card (Err (CheckSum b)) = Reached card b × (Summed (block_at card b) → ⊥)
Says card (Err (Name b)) = Reached card b × Summed (block_at card b) × (NamedAt card b → ⊥)
Says card (Err (Sizes b)) = Reached card b × Summed (block_at card b) × NamedAt card b × (b ≡ 0) × (Sizable card → ⊥)
Says card (Err (Spare b k)) = Reached card b × Summed (block_at card b) × NamedAt card b × (b ≡ 0 → Sizable card) × FirstSetAt card b k
Says card (Err (Short n)) = ⊥
