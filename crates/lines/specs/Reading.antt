-- What is written of a number, read again.
use Rattle.std.specs.Prelude.{◌≡◌, ◌^◌, ◌<◌, ℤ, decimal, slice_index, unsigned_abs}
use Rattle.std.specs.Str.Parse.{signed_digits_value}
use Rattle.std.specs.Fmt.{signed_decimal}

-- a number that is written reads back as itself, and has no leading zero
abbrev pub Legible : Type 0
Legible = (z : ℤ) → unsigned_abs z < 10 ^ 63 → (signed_digits_value 10 (signed_decimal z) ≡ z) × (0 < unsigned_abs z → 48 < slice_index (decimal (unsigned_abs z)) 0)
