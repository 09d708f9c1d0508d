-- The system of a working set: G x − Σ y_w v_w = −c, with v_w · x at the number at which each member w is held.
-- Lines and unknowns go ropes first, then members as they entered.
use Rattle.std.specs.Prelude.{ℕ, ◌+◌, List, [], ◌∷◌, ◌++◌, map, length, replicate, ℤ, pos, neg_ℤ, slice_index_or, Float}
use Rattle.std.specs.Float.{binary64}
use Rattle.std.specs.Float.Ieee.{of_int}
use Rattle.std.specs.List.{range_with_len}
use Rattle.duality.specs.Problem.{Problem}
use Rattle.exchange.specs.Members.{blank, weight, held_at}
use Rattle.exchange.specs.declared.members.Member.{Member}

abbrev pub member_at : List Member → ℕ → Member
member_at ms k = slice_index_or ms k blank

-- how many unknowns there are
abbrev pub size_of : Problem → List Member → ℕ
size_of P ms = P.ropes + length ms

-- the line of rope r: the ropes' coefficients, the weight of each member there turned round, and the linear cost turned round
abbrev pub rope_line : Problem → List Member → ℕ → List ℤ
rope_line P ms r = map (P.G r) (range_with_len 0 P.ropes) ++ (map (λ w. neg_ℤ (weight P w.limit r)) ms ++ neg_ℤ (P.c r) ∷ [])

-- the line of a member: its weights, 0 for each member, and the number at which it holds its limit
abbrev pub member_line : Problem → List Member → Member → List ℤ
member_line P ms w = map (weight P w.limit) (range_with_len 0 P.ropes) ++ (replicate (length ms) (pos 0) ++ held_at P w ∷ [])

abbrev pub floats : List ℤ → List Float
floats xs = map (of_int binary64) xs

unfoldable pub system_of : Problem → List Member → List (List Float)
system_of P ms = map (λ r. floats (rope_line P ms r)) (range_with_len 0 P.ropes) ++ map (λ w. floats (member_line P ms w)) ms
