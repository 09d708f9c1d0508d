-- What is to be written on a card.
use Rattle.std.specs.Prelude.{◌≡◌, ℕ, cond, List, [], ◌∷◌, ◌++◌, length, drop, ℤ, pos, Some, None, Ok, Err, Option, Result, nat_le}
use Rattle.block.specs.declared.fault.Fault.{Fault}
use Rattle.block.specs.declared.fault.Fault.TheVariants.{Short}
use Rattle.block.specs.declared.kind.Kind.{Kind}
use Rattle.block.specs.declared.kind.Kind.TheVariants.{Head, Curvature, Rows, Costs, Bounds, Limits, Slip}
use Rattle.section.specs.declared.sizes.Sizes.{Sizes}
use Rattle.card.specs.declared.contents.Contents.{Contents}
use Rattle.card.specs.declared.contents.Numbers.{Numbers}
use Rattle.section.specs.Layout.{numbers_for, bytes_for}
use Rattle.card.specs.Cards.{card_of}

-- the numbers of each section: the head has the sizes
abbrev pub sections : Sizes → List ℤ → List ℤ → List ℤ → List ℤ → List ℤ → List ℤ → Kind → List ℤ
sections s curvature rows costs bounds limits slip Head = pos s.ropes ∷ pos s.rows ∷ []
sections s curvature rows costs bounds limits slip Curvature = curvature
sections s curvature rows costs bounds limits slip Rows = rows
sections s curvature rows costs bounds limits slip Costs = costs
sections s curvature rows costs bounds limits slip Bounds = bounds
sections s curvature rows costs bounds limits slip Limits = limits
sections s curvature rows costs bounds limits slip Slip = slip

abbrev pub sections_of : Sizes → Numbers → Kind → List ℤ
sections_of s y = sections s y.curvature.now y.rows.now y.costs.now y.bounds.now y.limits.now y.slip.now

abbrev pub numbers : Contents → Kind → List ℤ
numbers x = sections_of x.sizes x.numbers

-- the numbers after the head by their kind, and none for the head
abbrev pub part_of : Numbers → Kind → List ℤ
part_of y Head = []
part_of y Curvature = y.curvature.now
part_of y Rows = y.rows.now
part_of y Costs = y.costs.now
part_of y Bounds = y.bounds.now
part_of y Limits = y.limits.now
part_of y Slip = y.slip.now

-- contents are made of sections that have as many numbers as the sizes ask for, and of no others
abbrev pub Counted : Sizes → (Kind → List ℤ) → Type 0
Counted s nums = (kind : Kind) → length (nums kind) ≡ numbers_for s kind

abbrev pub Built : Option Contents → Sizes → (Kind → List ℤ) → Type 0
Built None s nums = Counted s nums → ⊥
Built (Some x) s nums = Counted s nums × ((kind : Kind) → numbers x kind ≡ nums kind)

-- the card, and how many bytes it has
abbrev pub written : Contents → List ℕ
written x = card_of x.sizes.ropes x.sizes.rows (numbers x)

abbrev pub bytes_needed : Contents → ℕ
bytes_needed x = bytes_for x.sizes

-- the writer's answer: the bytes used, or how many are needed
abbrev pub write_answer : Contents → List ℕ → Result ℕ Fault
write_answer x out = cond (nat_le (bytes_needed x) (length out)) (Ok (bytes_needed x)) (Err (Short (bytes_needed x)))

-- the list after it: the card and then the bytes that stood past it, or the list as it stood
abbrev pub write_after : Contents → List ℕ → List ℕ
write_after x out = cond (nat_le (bytes_needed x) (length out)) (written x ++ drop (bytes_needed x) out) out
