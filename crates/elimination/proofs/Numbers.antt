-- The constants of the code, as the numbers that specs/Lines.antt names.
use Rattle.std.proofs.Common.{◌≡◌, false, pos, negsuc, refl}
use lib.Ieee.{fin, binary64, of_bits, of_fields, odd}
use lib.Count.{count_trailing_zeros}

pub zero_is : of_bits binary64 0 ≡ fin false 0 (pos 0)
unfolding of_bits of_fields odd
zero_is = refl

pub small_is : of_bits binary64 0x3eb0_0000_0000_0000 ≡ fin false 1 (negsuc 19)
unfolding of_bits of_fields odd count_trailing_zeros
small_is = refl

pub large_is : of_bits binary64 0x43b0_0000_0000_0000 ≡ fin false 1 (pos 60)
unfolding of_bits of_fields odd count_trailing_zeros
large_is = refl

pub bound_is : of_bits binary64 0x41d0_0000_0000_0000 ≡ fin false 1 (pos 30)
unfolding of_bits of_fields odd count_trailing_zeros
bound_is = refl
