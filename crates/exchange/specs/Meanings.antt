-- What a choice and an offer mean, in the words of the problem P: z are the rounded pulls, ms the working set, and ys the rounded multipliers of its members.
use Rattle.std.specs.Prelude.{◌≡◌, ℕ, ◌-◌, ◌<◌, ◌≤◌, false, List, length, take, drop, replicate, ℤ, pos, ◌-ℤ◌, ◌≤ℤ◌, ◌<ℤ◌, unsigned_abs}
use Rattle.duality.specs.Lists.{places}
use Rattle.duality.specs.Problem.{Problem}
use Rattle.job.specs.Bounds.{HeldInside}
use Rattle.exchange.specs.Members.{Of, low, high}
use Rattle.exchange.specs.Systems.{member_at}
use Rattle.exchange.specs.Breaches.{holds, value_at, ticks}
use Rattle.exchange.specs.declared.members.Limit.{Limit}
use Rattle.exchange.specs.declared.members.Limit.TheVariants.{Row, Bound}
use Rattle.exchange.specs.declared.members.Side.{Side}
use Rattle.exchange.specs.declared.members.Side.TheVariants.{Lower, Upper}
use Rattle.exchange.specs.declared.members.Member.{Member}
use Rattle.exchange.specs.declared.members.Offer.{Offer}
use Rattle.exchange.specs.declared.members.Choice.{Choice}
use Rattle.exchange.specs.declared.members.Choice.TheVariants.{Enter, Leave, Full, Done}

-- rows stand before bounds, each by index
abbrev pub Before : Limit → Limit → Type 0
Before (Row i) (Row k) = i < k
Before (Row i) (Bound j) = Unit {0}
Before (Bound j) (Row i) = ⊥
Before (Bound j) (Bound k) = j < k

-- a limit of the problem that is not in the set, on either side
abbrev pub Free : Problem → List Member → Limit → Type 0
Free P ms v = Of P.ropes P.rows v × (holds ms v ≡ false)

-- below the low end, or above the high one
abbrev pub Past : Side → ℤ → ℤ → ℤ → Type 0
Past Lower lower upper s = s <ℤ lower
Past Upper lower upper s = upper <ℤ s

-- z lies outside the member's limit, on the member's side
abbrev pub Breaks : Problem → List ℤ → Member → Type 0
Breaks P z w = Past w.side (low P w.limit) (high P w.limit) (value_at P z w.limit)

-- z lies inside a limit
abbrev pub Meets : Problem → List ℤ → Limit → Type 0
Meets P z v = (low P v ≤ℤ value_at P z v) × (value_at P z v ≤ℤ high P v)

-- no limit outside the set is broken
abbrev pub MeetsFree : Problem → List Member → List ℤ → Type 0
MeetsFree P ms z = (v : Limit) → Free P ms v → Meets P z v

-- who enters finds room, was not in the set, is broken on its side, and lies furthest outside: the first of equals
pub record Enters (P : Problem) (ms : List Member) (z : List ℤ) (w : Member) : Type 0 where
  pub room : length ms < P.ropes
  pub free : Free P ms w.limit
  pub broken : Breaks P z w
  pub furthest : (v : Limit) → Free P ms v → ticks P z v ≤ℤ ticks P z w.limit
  pub first : (v : Limit) → Free P ms v → Before v w.limit → ticks P z v <ℤ ticks P z w.limit

-- negative is wrong on the lower side, positive on the upper
abbrev pub Wrong : Side → ℤ → Type 0
Wrong Lower y = y <ℤ pos 0
Wrong Upper y = pos 0 <ℤ y

-- the multiplier of the member at place k has the wrong sign
abbrev pub WrongAt : List Member → List ℤ → ℕ → Type 0
WrongAt ms ys k = (k < length ms) × Wrong (member_at ms k).side (places ys k)

-- who leaves has the wrong sign, and by most: the first of equals
pub record Leaves (ms : List Member) (ys : List ℤ) (k : ℕ) : Type 0 where
  pub wrong : WrongAt ms ys k
  pub most : (i : ℕ) → WrongAt ms ys i → unsigned_abs (places ys i) ≤ unsigned_abs (places ys k)
  pub first : (i : ℕ) → WrongAt ms ys i → i < k → unsigned_abs (places ys i) < unsigned_abs (places ys k)

-- Done: the optimality conditions of the working set, as far as rounding goes.
abbrev pub Means : Problem → List Member → List ℤ → List ℤ → Choice → Type 0
Means P ms z ys (Enter w) = Enters P ms z w
Means P ms z ys (Leave k) = MeetsFree P ms z × Leaves ms ys k
Means P ms z ys Full = (length ms ≡ P.ropes) × ((w : Member) × Free P ms w.limit × Breaks P z w)
Means P ms z ys Done = MeetsFree P ms z × ((k : ℕ) → WrongAt ms ys k → ⊥)

-- y held within a limit either way is w: no number within it lies nearer to y
pub record HeldWithin (limit : ℕ) (y w : ℤ) : Type 0 where
  pub within : unsigned_abs w ≤ limit
  pub nearest : (v : ℤ) → unsigned_abs v ≤ limit → unsigned_abs (w -ℤ y) ≤ unsigned_abs (v -ℤ y)

-- What is offered: the rounded pulls held inside the bounds, and for each row that is a member its rounded multiplier held within the limit.
-- A row that is no member has 0, and so have the places past the ropes and the rows.
pub record OfferOf (P : Problem) (ms : List Member) (z ys : List ℤ) (o : Offer) : Type 0 where
  pub point : HeldInside P z (take P.ropes o.point)
  pub rows : length (take P.rows o.multipliers) ≡ P.rows
  pub pressed : (i k : ℕ) → i < P.rows → k < length ms → (member_at ms k).limit ≡ Row i → HeldWithin 16777216 (places ys k) (places o.multipliers i)
  pub free : (i : ℕ) → i < P.rows → holds ms (Row i) ≡ false → places o.multipliers i ≡ pos 0
  pub past_ropes : drop P.ropes o.point ≡ replicate (16 - P.ropes) (pos 0)
  pub past_rows : drop P.rows o.multipliers ≡ replicate (32 - P.rows) (pos 0)
