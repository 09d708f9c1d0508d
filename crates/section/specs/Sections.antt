-- A section as a part of a card's bytes.
use Rattle.std.specs.Prelude.{ℕ, ◌+◌, ◌*◌, ◌/◌, ◌%◌, cond, List, length, take, drop, ℤ, None, Option, nat_le, slice_index}
use Rattle.std.specs.Option.{option_map}
use Rattle.block.specs.Bytes.{number_at}
use Rattle.block.specs.declared.kind.Kind.{Kind}
use Rattle.block.specs.declared.kind.Kind.TheVariants.{Head, Curvature, Rows, Costs, Bounds, Limits, Slip}
use Rattle.section.specs.declared.section.Section.{Section}
use Rattle.block.specs.Kinds.{kind_of}
use Rattle.section.specs.Layout.{blocks_for, count_of}

-- what a section is, which bytes it has, and the number of its first block
pub record Part : Type 0 where
  pub kind : Kind
  pub bytes : List ℕ
  pub first : ℕ

abbrev pub part_of : Section → Part
part_of (Section.Head bytes first) = record { kind = Head; bytes = bytes.now; first = first }
part_of (Section.Curvature bytes first) = record { kind = Curvature; bytes = bytes.now; first = first }
part_of (Section.Rows bytes first) = record { kind = Rows; bytes = bytes.now; first = first }
part_of (Section.Costs bytes first) = record { kind = Costs; bytes = bytes.now; first = first }
part_of (Section.Bounds bytes first) = record { kind = Bounds; bytes = bytes.now; first = first }
part_of (Section.Limits bytes first) = record { kind = Limits; bytes = bytes.now; first = first }
part_of (Section.Slip bytes first) = record { kind = Slip; bytes = bytes.now; first = first }

-- the kind that the letter of block `first` names, where the card has that block
abbrev pub kind_at : List ℕ → ℕ → Option Kind
kind_at card first = cond (nat_le (first * 512 + 512) (length card)) (kind_of (slice_index card (first * 512))) None

-- `blocks` blocks from block `first` on, or what the card has of them
abbrev pub run_at : List ℕ → ℕ → ℕ → List ℕ
run_at card first blocks = take (blocks * 512) (drop (first * 512) card)

abbrev pub part_at : List ℕ → ℕ → ℕ → ℕ → Kind → Part
part_at card first n m kind = record { kind = kind; bytes = run_at card first (blocks_for (count_of kind n m)); first = first }

-- the section that starts at block `first`, named by that block's letter
abbrev pub section_at : List ℕ → ℕ → ℕ → ℕ → Option Part
section_at card first n m = option_map (part_at card first n m) (kind_at card first)

-- where number q of a section lies in its bytes: 126 numbers to a block, from the block's byte 4 on
abbrev pub spot_of : ℕ → ℕ
spot_of q = q / 126 * 512 + 4 + q % 126 * 4

-- number q of a section, where its bytes reach so far
abbrev pub value_at : List ℕ → ℕ → Option ℤ
value_at bytes q = number_at bytes (spot_of q)
