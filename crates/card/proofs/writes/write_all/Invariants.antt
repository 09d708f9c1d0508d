use Rattle.std.proofs.Common.{◌≡◌, ℕ, ◌<◌, drop, get_or}
use Rattle.block.specs.Blocks.{Fit}
use Rattle.block.specs.declared.kind.Kind.TheVariants.{Head}
use Rattle.card.specs.Contents.{part_of}
use Rattle.card.proofs.Filling.{parts_into}
use Rattle.card.proofs.writes.write_all.Given as goal

-- the sections that are left make the card, and the numbers so far fit
abbrev pub invariant-loop-kind : goal.invariant-loop-kind
invariant-loop-kind l =
    record {
      laid : parts_into l.x.sizes l.x.numbers (drop l.kind-index l.kind-items) l.out ≡ parts_into l.x.sizes l.x.numbers l.kind-items l.initial.out;
      fits : (k : ℕ) → k < l.kind-index → Fit (part_of l.x.numbers (get_or l.kind-items k Head));
    }
