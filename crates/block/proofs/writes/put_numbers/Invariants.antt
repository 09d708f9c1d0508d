use Rattle.std.proofs.Common.{◌≡◌, ℕ, ◌*◌, ◌<◌, get_or, take, pos, w32, SFits}
use lib.Seq.{paste}
use Rattle.std.specs.List.{flat_map}
use Rattle.block.specs.Bytes.{bytes4}
use Rattle.block.proofs.writes.put_numbers.Given as goal

-- the bytes of the numbers so far lie from byte 4 on, and each of these numbers fits 32 bits
abbrev pub invariant-loop-j : goal.invariant-loop-j
invariant-loop-j l =
    (l.bytes ≡ paste l.initial.bytes 4 (flat_map bytes4 (take l.j l.numbers)) (l.j * 4))
    × ((k : ℕ) → k < l.j → SFits w32 (get_or l.numbers k (pos 0)))
