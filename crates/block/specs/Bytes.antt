-- Whole numbers as bytes, the low byte first.
use Rattle.std.specs.Prelude.{ℕ, ◌+◌, ◌*◌, ◌/◌, ◌%◌, cond, List, [], ◌∷◌, length, ℤ, Some, None, Option, nat_le, slice_index}
use Rattle.std.proofs.Common.{to_z, of_z}
use Rattle.std.specs.Int.{w32}

-- the number below 2 ^ 16 that the two bytes at `at` write
abbrev pub le16 : List ℕ → ℕ → ℕ
le16 bs at = slice_index bs at + slice_index bs (at + 1) * 256

-- the number below 2 ^ 32 that the four bytes at `at` write
abbrev pub le32 : List ℕ → ℕ → ℕ
le32 bs at = slice_index bs at + slice_index bs (at + 1) * 256 + slice_index bs (at + 2) * 65536 + slice_index bs (at + 3) * 16777216

-- the same four bytes as a signed number
abbrev pub num : List ℕ → ℕ → ℤ
num bs at = to_z w32 (le32 bs at)

-- the signed number at `at`, where the list has all four bytes
abbrev pub number_at : List ℕ → ℕ → Option ℤ
number_at bs at = cond (nat_le (at + 4) (length bs)) (Some (num bs at)) None

-- the two bytes of a number below 2 ^ 16
abbrev pub bytes2 : ℕ → List ℕ
bytes2 n = (n % 256) ∷ (n / 256 % 256) ∷ []

-- the four bytes of a signed number
abbrev pub bytes4 : ℤ → List ℕ
bytes4 z = (of_z w32 z % 256) ∷ (of_z w32 z / 256 % 256) ∷ (of_z w32 z / 65536 % 256) ∷ (of_z w32 z / 16777216 % 256) ∷ []
