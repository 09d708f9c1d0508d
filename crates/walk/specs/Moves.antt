-- The moves of a walk, in the order in which they are tried.
use Rattle.std.specs.Prelude.{ℕ, zero, suc, ◌^◌, List, [], ◌∷◌, ℤ, pos, ◌+ℤ◌, neg_ℤ, slice_set}
use Rattle.std.specs.List.{range_with_len, flat_map}
use Rattle.duality.specs.Lists.{places}
use Rattle.walk.specs.declared.moves.Move.{Move}

-- the first n powers of two, the largest first
abbrev pub powers : ℕ → List ℤ
powers zero = []
powers (suc n) = pos (2 ^ n) ∷ powers n

-- 16,384 down to 1
unfoldable pub sizes : List ℤ
sizes = powers 15

abbrev pub move : ℕ → ℤ → Move
move j d = record { rope = j; by = d }

-- the point once a move was made
abbrev pub after : List ℤ → Move → List ℤ
after z m = slice_set z m.rope (places z m.rope +ℤ m.by)

-- plus before minus, sizes down the table, ropes up the list
abbrev pub both_ways : ℕ → ℤ → List Move
both_ways j s = move j s ∷ move j (neg_ℤ s) ∷ []

unfoldable pub of_rope : ℕ → List Move
of_rope j = flat_map (both_ways j) sizes

unfoldable pub candidates : ℕ → List Move
candidates n = flat_map of_rope (range_with_len 0 n)
