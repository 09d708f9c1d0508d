-- A step's unknowns in whole numbers.
use Rattle.std.specs.Prelude.{false, List, map, ℤ, pos, Float}
use Rattle.std.specs.Float.{fin, binary64}
use Rattle.std.specs.Float.Ieee.{mul}
use Rattle.elimination.specs.Nearest.{nearest}

-- pulls to the nearest tick
abbrev pub pulled : List Float → List ℤ
pulled us = map nearest us

-- multipliers to the nearest 256th
abbrev pub in_parts : Float → Float
in_parts y = mul binary64 y (fin false 1 (pos 8))

abbrev pub scaled : Float → ℤ
scaled y = nearest (in_parts y)

abbrev pub pressed : List Float → List ℤ
pressed us = map scaled us
