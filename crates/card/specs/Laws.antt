-- What the check of a card and its writer mean to each other.
use Rattle.std.specs.Prelude.{◌≡◌, ℕ, List, [], ◌∷◌, length, ℤ, pos, Ok}
use Rattle.block.specs.Blocks.{Fit}
use Rattle.block.specs.Checks.{Verdict}
use Rattle.block.specs.declared.kind.Kind.{Kind}
use Rattle.block.specs.declared.kind.Kind.TheVariants.{Head}
use Rattle.section.specs.Layout.{InRange, count_of}
use Rattle.card.specs.Faults.{n_of, m_of}
use Rattle.section.specs.Numbers.{numbers_in}
use Rattle.card.specs.Cards.{card_of}

-- numbers for the sections, as many as the sizes ask for, each of which fits four bytes; the head has the sizes
pub record Proper (n m : ℕ) (nums : Kind → List ℤ) : Type 0 where
  pub sizes : InRange n m
  pub head : nums Head ≡ pos n ∷ pos m ∷ []
  pub counts : (kind : Kind) → length (nums kind) ≡ count_of kind n m
  pub fits : (kind : Kind) → Fit (nums kind)

-- exactly the cards that are made of sizes and numbers pass
pub record Exact (card : List ℕ) (v : Verdict) : Type 0 where
  pub made : v ≡ Ok tt → card ≡ card_of (n_of card) (m_of card) (numbers_in card (n_of card) (m_of card))
  pub passes : (n m : ℕ) (nums : Kind → List ℤ) → Proper n m nums → card ≡ card_of n m nums → v ≡ Ok tt

-- the sizes and the numbers of a card are these
pub record Reads (card : List ℕ) (n m : ℕ) (nums : Kind → List ℤ) : Type 0 where
  pub ropes : n_of card ≡ n
  pub rows : m_of card ≡ m
  pub section : (kind : Kind) → numbers_in card n m kind ≡ nums kind
