-- The order of the search, as a relation.
use Rattle.std.specs.Prelude.{◌≡◌, ◌<◌, ◌⊎◌, ℤ, ◌<ℤ◌}
use Rattle.duality.specs.Sums.{absℤ}
use Rattle.walk.specs.declared.moves.Move.{Move}

-- a larger size comes first, and of the same size plus before minus
abbrev pub Sooner : ℤ → ℤ → Type 0
Sooner d e = (absℤ e <ℤ absℤ d) ⊎ ((absℤ d ≡ absℤ e) × (e <ℤ d))

-- a lower rope comes first
abbrev pub Before : Move → Move → Type 0
Before m k = (m.rope < k.rope) ⊎ ((m.rope ≡ k.rope) × Sooner m.by k.by)
