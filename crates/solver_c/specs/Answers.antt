-- What is told of a card, as C is handed it.
use Rattle.std.specs.Prelude.{ℕ, cond, Float}
use Rattle.std.specs.Float.Ieee.{binary64, is_nan, to_bits}
use Rattle.solver.specs.declared.told.Told.{Told}
use Rattle.solver_c.specs.declared.Answer.{Answer}

-- the bits of a float, and 0 for one that is no number
abbrev pub bits_of : Float → ℕ
bits_of x = cond (is_nan x) 0 (to_bits binary64 x)

abbrev pub answer_of : Told → Answer
answer_of t = record { bytes = t.bytes; pivot = bits_of t.smallest; solved = t.solved }
