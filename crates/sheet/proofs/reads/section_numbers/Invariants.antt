use Rattle.std.proofs.Common.{◌≡◌, take}
use Rattle.section.specs.Numbers.{numbers_in}
use Rattle.card.specs.Faults.{n_of, m_of}
use Rattle.sheet.proofs.reads.section_numbers.Given as goal

-- the numbers so far
abbrev pub invariant-loop-q : goal.invariant-loop-q
invariant-loop-q g l = l.numbers.items ≡ take l.q (numbers_in l.card.bytes.now (n_of l.card.bytes.now) (m_of l.card.bytes.now) l.fn.kind)
