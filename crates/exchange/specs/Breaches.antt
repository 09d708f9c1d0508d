-- Which limit a point breaks most.
use Rattle.std.specs.Prelude.{◌≡◌, ℕ, zero, suc, ◌<◌, Bool, false, cond, ◌||◌, List, [], ◌∷◌, length, take, ℤ, pos, ◌==◌, int_lt, slice_index_or}
use Rattle.duality.specs.Lists.{places}
use Rattle.duality.specs.Problem.{Problem, row_at}
use Rattle.terms.specs.Ticks.{excess}
use Rattle.exchange.specs.Members.{blank, low, high}
use Rattle.exchange.specs.declared.members.Limit.{Limit}
use Rattle.exchange.specs.declared.members.Limit.TheVariants.{Row, Bound}
use Rattle.exchange.specs.declared.members.Side.{Side}
use Rattle.exchange.specs.declared.members.Side.TheVariants.{Lower, Upper}
use Rattle.exchange.specs.declared.members.Member.{Member}
use Rattle.exchange.specs.declared.members.Breach.{Breach}

abbrev pub same : Limit → Limit → Bool
same (Row i) (Row k) = i == k
same (Row i) (Bound k) = false
same (Bound j) (Row k) = false
same (Bound j) (Bound k) = j == k

-- whether a limit is held, on either side
abbrev pub holds : List Member → Limit → Bool
holds [] v = false
holds (w ∷ ms) v = same w.limit v || holds ms v

-- no limit is held twice: no member's limit is held by those before it
abbrev pub Apart : List Member → Type 0
Apart ms = (k : ℕ) (d : Member) → k < length ms → holds (take k ms) (slice_index_or ms k d).limit ≡ false

-- what a limit limits: the row's sum, or the rope's pull
abbrev pub value_at : Problem → List ℤ → Limit → ℤ
value_at P z (Row i) = row_at P (places z) i
value_at P z (Bound j) = places z j

-- below the low end, or else above the high one
abbrev pub side_of : ℤ → ℤ → Side
side_of lower s = cond (int_lt s lower) Lower Upper

-- how many ticks z lies outside a limit
abbrev pub ticks : Problem → List ℤ → Limit → ℤ
ticks P z v = excess (low P v) (high P v) (value_at P z v)

-- the same, and on which side
unfoldable pub breach : Problem → List ℤ → Limit → Breach
breach P z v = record { ticks = ticks P z v; member = record { limit = v; side = side_of (low P v) (value_at P z v) } }

-- the worse of two, where the first stands at a draw, and a limit that is held does not count
unfoldable pub worse : Problem → List Member → List ℤ → Breach → Limit → Breach
worse P ms z b v = cond (holds ms v) b (cond (int_lt b.ticks (breach P z v).ticks) (breach P z v) b)

-- f for 0, 1 .. n - 1 in turn
abbrev pub upto : {X : Type 0} → (X → ℕ → X) → X → ℕ → X
upto f x zero = x
upto f x (suc n) = f (upto f x n) n

-- no limit broken
abbrev pub unbroken : Breach
unbroken = record { ticks = pos 0; member = blank }

-- the worst among the rows, and then among the bounds: rows first at a draw, then the lowest index
abbrev pub worst_row : Problem → List Member → List ℤ → Breach
worst_row P ms z = upto (λ b i. worse P ms z b (Row i)) unbroken P.rows

unfoldable pub worst : Problem → List Member → List ℤ → Breach
worst P ms z = upto (λ b j. worse P ms z b (Bound j)) (worst_row P ms z) P.ropes
