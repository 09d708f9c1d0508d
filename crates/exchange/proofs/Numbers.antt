-- The constants of the code, as the numbers that specs/ names.
use Rattle.std.proofs.Common.{◌≡◌, false, pos, refl}
use lib.Count.{count_trailing_zeros}
use lib.Ieee.{fin, binary64, of_bits, of_fields, odd}

pub scale_is : of_bits binary64 0x4070_0000_0000_0000 ≡ fin false 1 (pos 8)
unfolding of_bits of_fields odd count_trailing_zeros
scale_is = refl
