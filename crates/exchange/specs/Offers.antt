-- What a step offers: a point inside the bounds, and a multiplier for each row.
use Rattle.std.specs.Prelude.{ℕ, ◌-◌, cond, List, [], ◌∷◌, ◌++◌, map, length, take, drop, replicate, ℤ, pos, negsuc, Float}
use Rattle.std.specs.List.{range_with_len}
use Rattle.duality.specs.Lists.{places}
use Rattle.duality.specs.Problem.{Problem}
use Rattle.job.specs.Bounds.{held}
use Rattle.exchange.specs.Breaches.{same}
use Rattle.exchange.specs.Rounding.{pulled, pressed}
use Rattle.exchange.specs.declared.members.Limit.{Limit}
use Rattle.exchange.specs.declared.members.Limit.TheVariants.{Row}
use Rattle.exchange.specs.declared.members.Member.{Member}
use Rattle.exchange.specs.declared.members.Offer.{Offer}

-- filled up with 0 to n places
abbrev pub filled : ℕ → List ℤ → List ℤ
filled n xs = xs ++ replicate (n - length xs) (pos 0)

-- each pull held inside its rope's bounds
abbrev pub inside_bounds : Problem → List ℤ → List ℤ
inside_bounds P z = map (λ k. held (P.l k) (P.u k) (places z k)) (range_with_len 0 P.ropes)

-- a multiplier within its limit, 16,777,216 either way
abbrev pub inside_limit : ℤ → ℤ
inside_limit y = held (negsuc 16777215) (pos 16777216) y

-- the multiplier of the member that holds a limit, or 0
abbrev pub pressure_of : List Member → List ℤ → Limit → ℤ
pressure_of [] ys v = pos 0
pressure_of (w ∷ ms) [] v = pos 0
pressure_of (w ∷ ms) (y ∷ ys) v = cond (same w.limit v) (inside_limit y) (pressure_of ms ys v)

-- a multiplier for each row: a row that is no member has 0
abbrev pub multipliers : Problem → List Member → List ℤ → List ℤ
multipliers P ms ys = map (λ i. pressure_of ms ys (Row i)) (range_with_len 0 P.rows)

-- the unknowns of the ropes, and of the members, rounded
abbrev pub pulls_of : Problem → List Float → List ℤ
pulls_of P us = pulled (take P.ropes us)

abbrev pub pressures_of : Problem → List Float → List ℤ
pressures_of P us = pressed (drop P.ropes us)

unfoldable pub offered : Problem → List Member → List Float → Offer
offered P ms us = record { point = filled 16 (inside_bounds P (pulls_of P us)); multipliers = filled 32 (multipliers P ms (pressures_of P us)) }
