-- The sections of a card that passes its check.
use Rattle.std.specs.Prelude.{◌≡◌, ℕ, ◌<◌, cond, List, pos, Some, None, Option, ◌==◌, slice_index_or}
use Rattle.block.specs.declared.kind.Kind.{Kind}
use Rattle.section.specs.Layout.{count_of, first_of}
use Rattle.section.specs.Sections.{Part, part_at, value_at}
use Rattle.section.specs.Numbers.{numbers_in}
use Rattle.card.specs.Faults.{n_of, m_of}

-- how many numbers a section of the card has
abbrev pub count_on : List ℕ → Kind → ℕ
count_on card kind = count_of kind (n_of card) (m_of card)

-- a section from its first block on; without numbers there is none
abbrev pub section_on : List ℕ → Kind → Option Part
section_on card kind = cond (count_on card kind == 0) None (Some (part_at card (first_of kind (n_of card) (m_of card)) (n_of card) (m_of card) kind))

-- Law: the section has the card's numbers of its kind, each at its place.
abbrev pub HoldsNumbers : List ℕ → Kind → Option Part → Type 0
HoldsNumbers card kind None = count_on card kind ≡ 0
HoldsNumbers card kind (Some s) = (q : ℕ) → q < count_on card kind → value_at s.bytes q ≡ Some (slice_index_or (numbers_in card (n_of card) (m_of card) kind) q (pos 0))
