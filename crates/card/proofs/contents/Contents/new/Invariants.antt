use Rattle.std.proofs.Common.{◌≡◌, ℕ, ◌<◌, length, get_or}
use Rattle.block.specs.declared.kind.Kind.TheVariants.{Head}
use Rattle.section.specs.Layout.{numbers_for}
use Rattle.card.specs.Contents.{part_of}
use Rattle.card.proofs.contents.Contents.new.Given as goal

-- the sections so far have as many numbers as they should
abbrev pub invariant-loop-kind : goal.invariant-loop-kind
invariant-loop-kind l =
    (k : ℕ) → k < l.kind-index → length (part_of l.numbers (get_or l.kind-items k Head)) ≡ numbers_for l.sizes (get_or l.kind-items k Head)
