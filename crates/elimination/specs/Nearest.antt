-- The whole number nearest to a float: a half goes away from zero.
use Rattle.std.specs.Prelude.{◌≡◌, ℕ, ◌+◌, ◌*◌, ◌/◌, Bool, true, false, ◌&&◌, ℤ, pos, neg_ℤ, Float}
use Rattle.std.specs.Float.Ieee.{up, down, lt, to_signed}
use Rattle.std.specs.Float.{float_round, nan, inf, fin, binary64}

-- The rule of rounding, at every float: what lies beyond 64 bits is held inside them, and what is no number gives 0.
unfoldable pub nearest : Float → ℤ
nearest x = to_signed 63 (float_round binary64 x)

abbrev pub with_sign_of : Bool → ℕ → ℤ
with_sign_of false q = pos q
with_sign_of true q = neg_ℤ (pos q)

-- n / d rounded, for a d above 0
abbrev pub half_away : ℕ → ℕ → ℕ
half_away n d = (2 * n + d) / (2 * d)

-- a float's value rounded
abbrev pub nearest_whole : Float → ℤ
nearest_whole nan = pos 0
nearest_whole (inf s) = pos 0
nearest_whole (fin s m e) = with_sign_of s (half_away (m * up e) (down e))

-- strictly within 2 ^ 38 either way
abbrev pub moderate : Float → Bool
moderate x = lt (fin true 1 (pos 38)) x && lt x (fin false 1 (pos 38))

-- Law: a float strictly within 2 ^ 38 is rounded to the whole number nearest to its value, a half away from zero.
abbrev pub Rounds : Float → ℤ → Type 0
Rounds x r = moderate x ≡ true → r ≡ nearest_whole x
