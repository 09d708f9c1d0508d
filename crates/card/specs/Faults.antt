-- The first fault of a card: whole blocks, then the head, then the length that the head asks for, then every other block in turn.
use Rattle.std.specs.Prelude.{ℕ, zero, suc, ◌+◌, ◌-◌, ◌*◌, ◌%◌, min, Bool, cond, ◌&&◌, List, length, ℤ, pos, Ok, Err, Result, ◌==◌, int_le, nat_le, unsigned_abs}
use Rattle.block.specs.declared.fault.Fault.{Fault}
use Rattle.block.specs.declared.fault.Fault.TheVariants.{Length, Sizes}
use Rattle.block.specs.Bytes.{num}
use Rattle.block.specs.Blocks.{block_at}
use Rattle.block.specs.Checks.{Verdict, and_then, sum_check, name_check, spare_check, block_check}
use Rattle.block.specs.declared.kind.Kind.{Kind}
use Rattle.block.specs.declared.kind.Kind.TheVariants.{Curvature, Rows, Costs, Bounds, Limits, Slip}
use Rattle.block.specs.Kinds.{letter_of}
use Rattle.section.specs.Layout.{blocks_for, count_of, first_of, blocks_in}

-- the sizes that the head's two numbers give
abbrev pub n_of : List ℕ → ℕ
n_of card = unsigned_abs (num card 4)

abbrev pub m_of : List ℕ → ℕ
m_of card = unsigned_abs (num card 8)

-- 1 to 15 whole blocks
abbrev pub length_check : ℕ → Verdict
length_check len = cond (nat_le 512 len && (nat_le len 7680 && len % 512 == 0)) (Ok tt) (Err (Length len))

-- 1 to 16 ropes and up to 32 rows
abbrev pub in_size : ℤ → ℤ → Bool
in_size n m = (int_le (pos 1) n && int_le n (pos 16)) && (int_le (pos 0) m && int_le m (pos 32))

abbrev pub size_check : List ℕ → Verdict
size_check card = cond (in_size (num card 4) (num card 8)) (Ok tt) (Err (Sizes 0))

-- the head, block 0: its check sum, its letter and number, its sizes, its spare bytes
abbrev pub head_check : List ℕ → Verdict
head_check card =
    and_then (sum_check (block_at card 0) 0) (and_then (name_check (block_at card 0) 72 0) (and_then (size_check card) (spare_check (block_at card 0) 0 2)))

-- the same of a head as a block of its own
abbrev pub first_check : List ℕ → Verdict
first_check head = and_then (sum_check head 0) (and_then (name_check head 72 0) (and_then (size_check head) (spare_check head 0 2)))

-- as many blocks as the sizes ask for
abbrev pub full_check : ℕ → ℕ → ℕ → Verdict
full_check len n m = cond (len == blocks_in n m * 512) (Ok tt) (Err (Length len))

-- b blocks under one letter from block k on, which hold `count` numbers
abbrev pub run_check : List ℕ → ℕ → ℕ → ℕ → ℕ → Verdict
run_check card letter k count zero = Ok tt
run_check card letter k count (suc b) = and_then (block_check (block_at card k) letter k (min count 126)) (run_check card letter (k + 1) (count - 126) b)

unfoldable pub section_check : List ℕ → Kind → ℕ → ℕ → Verdict
section_check card kind n m = run_check card (letter_of kind) (first_of kind n m) (count_of kind n m) (blocks_for (count_of kind n m))

-- the six sections after the head
abbrev pub sections_check : List ℕ → ℕ → ℕ → Verdict
sections_check card n m =
    and_then (section_check card Curvature n m)
    (and_then (section_check card Rows n m)
    (and_then (section_check card Costs n m)
    (and_then (section_check card Bounds n m)
    (and_then (section_check card Limits n m) (section_check card Slip n m)))))

abbrev pub card_check : List ℕ → Verdict
card_check card =
    and_then (length_check (length card))
    (and_then (head_check card) (and_then (full_check (length card) (n_of card) (m_of card)) (sections_check card (n_of card) (m_of card))))

-- whether a check passed, or its fault
abbrev pub verdict : {T : Type 0} → Result T Fault → Verdict
verdict (Ok x) = Ok tt
verdict (Err f) = Err f
