-- What betters what is held.
use Rattle.std.specs.Prelude.{cond, ℤ, Some, None, Option, int_lt}

-- a cost below that of the held point, or any where none is held
abbrev pub below : Option ℤ → ℤ → Option ℤ
below None q = Some q
below (Some held) q = cond (int_lt q held) (Some q) None

-- a floor above that of the held pair
abbrev pub above : ℤ → ℤ → Option ℤ
above held v = cond (int_lt held v) (Some v) None
