use Rattle.std.proofs.Common.{◌≡◌, ℕ, ◌*◌, ◌<◌, ◌≤◌, length, get_or, drop, pos, w32, SFits}
use Rattle.std.specs.Slice.Iter.{chunks_rest, chunks_size}
use lib.Seq.{paste}
use Rattle.block.specs.Kinds.{letter_of}
use Rattle.section.specs.Layout.{blocks_for}
use Rattle.card.specs.Cards.{laid}
use Rattle.card.proofs.writes.write_run.Given as goal

-- the blocks so far, whose numbers fit, and the numbers that are left
abbrev pub invariant-loop-b : goal.invariant-loop-b
invariant-loop-b l =
    let b = l.b-iterator.count in
    record {
      laid : l.out ≡ paste l.initial.out (l.first * 512) (laid (letter_of l.kind) l.first l.numbers b) (b * 512);
      fits : (k : ℕ) → k < b * 126 → k < length l.numbers → SFits w32 (get_or l.numbers k (pos 0));
      few : b ≤ blocks_for (length l.numbers);
      size : chunks_size l.b-iterator.iter ≡ 126;
      rest : chunks_rest l.b-iterator.iter ≡ drop (b * 126) l.numbers;
    }
