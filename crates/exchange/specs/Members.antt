-- Limits, and the members of a working set.
use Rattle.std.specs.Prelude.{◌≡◌, ℕ, ◌<◌, Bool, true, cond, List, length, ℤ, pos, ◌==◌, nat_lt, slice_index_or}
use Rattle.duality.specs.Problem.{Problem}
use Rattle.exchange.specs.declared.members.Limit.{Limit}
use Rattle.exchange.specs.declared.members.Limit.TheVariants.{Row, Bound}
use Rattle.exchange.specs.declared.members.Side.{Side}
use Rattle.exchange.specs.declared.members.Side.TheVariants.{Lower, Upper}
use Rattle.exchange.specs.declared.members.Member.{Member}

-- what stands for no member
abbrev pub blank : Member
blank = record { limit = Bound 0; side = Lower }

-- a limit of a problem of n ropes and m rows
abbrev pub Of : ℕ → ℕ → Limit → Type 0
Of n m (Row i) = i < m
Of n m (Bound j) = j < n

abbrev pub OfAll : ℕ → ℕ → List Member → Type 0
OfAll n m ms = (k : ℕ) (d : Member) → k < length ms → Of n m (slice_index_or ms k d).limit

-- the same as a test
abbrev pub is_of : ℕ → ℕ → Limit → Bool
is_of n m (Row i) = nat_lt i m
is_of n m (Bound j) = nat_lt j n

abbrev pub Fitting : ℕ → ℕ → List Member → Type 0
Fitting n m ms = (k : ℕ) (d : Member) → k < length ms → is_of n m (slice_index_or ms k d).limit ≡ true

-- v at rope j: a row's weight there, or 1 at a bound's own rope
abbrev pub weight : Problem → Limit → ℕ → ℤ
weight P (Row i) j = P.A i j
weight P (Bound k) j = cond (k == j) (pos 1) (pos 0)

abbrev pub low : Problem → Limit → ℤ
low P (Row i) = P.lo i
low P (Bound k) = P.l k

abbrev pub high : Problem → Limit → ℤ
high P (Row i) = P.hi i
high P (Bound k) = P.u k

abbrev pub on_side : Side → ℤ → ℤ → ℤ
on_side Lower a b = a
on_side Upper a b = b

-- the number at which a member holds its limit
abbrev pub held_at : Problem → Member → ℤ
held_at P w = on_side w.side (low P w.limit) (high P w.limit)
