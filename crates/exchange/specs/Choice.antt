-- How the working set changes after a step.
use Rattle.std.specs.Prelude.{ℕ, cond, List, length, ℤ, pos, int_lt, nat_lt, unsigned_abs}
use Rattle.duality.specs.Lists.{places}
use Rattle.duality.specs.Problem.{Problem}
use Rattle.exchange.specs.Breaches.{upto, worst}
use Rattle.exchange.specs.Systems.{member_at}
use Rattle.exchange.specs.declared.members.Side.{Side}
use Rattle.exchange.specs.declared.members.Side.TheVariants.{Lower, Upper}
use Rattle.exchange.specs.declared.members.Member.{Member}
use Rattle.exchange.specs.declared.members.Wrong.{Wrong}
use Rattle.exchange.specs.declared.members.Choice.{Choice}
use Rattle.exchange.specs.declared.members.Choice.TheVariants.{Enter, Leave, Full, Done}

-- negative is wrong on the lower side, positive on the upper
abbrev pub wrongness : Side → ℤ → ℕ
wrongness Lower y = cond (int_lt y (pos 0)) (unsigned_abs y) 0
wrongness Upper y = cond (int_lt (pos 0) y) (unsigned_abs y) 0

abbrev pub more_wrong : List Member → List ℤ → Wrong → ℕ → Wrong
more_wrong ms ys b k =
    cond (nat_lt b.size (wrongness (member_at ms k).side (places ys k))) (record { size = wrongness (member_at ms k).side (places ys k); place = k }) b

abbrev pub unwronged : Wrong
unwronged = record { size = 0; place = 0 }

-- the most wrong multiplier, the first of equals
unfoldable pub most_wrong : List Member → List ℤ → Wrong
most_wrong ms ys = upto (more_wrong ms ys) unwronged (length ms)

-- A broken limit enters if the set has room; where none is broken, the member that is most wrong leaves.
unfoldable pub chosen : Problem → List Member → List ℤ → List ℤ → Choice
chosen P ms z ys =
    cond (int_lt (pos 0) (worst P ms z).ticks)
    (cond (nat_lt (length ms) P.ropes) (Enter (worst P ms z).member) Full)
    (cond (nat_lt 0 (most_wrong ms ys).size) (Leave (most_wrong ms ys).place) Done)
