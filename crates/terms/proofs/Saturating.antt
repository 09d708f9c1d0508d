-- Numbers held to 64 bits: the larger of two that are held is the larger, held.
use Rattle.std.proofs.Common.{◌≡◌, ℕ, ◌+◌, ◌^◌, ◌<◌, ◌≤◌, ℤ, pos, negsuc, ◌-ℤ◌, nat_abs, ap, ◌∙◌, arith, w64, SFits, to_z, of_z}
use Rattle.std.proofs.lemmas.Int.{ints, to_z-of_z}
use Rattle.std.specs.Int.{int_max, saturate_to_bits, saturate_signed}
use Rattle.duality.proofs.Sizes.{small_sub}
use Rattle.terms.specs.Ticks.{excess, Near}

pub max_held : (h : ℕ) (a b : ℤ) → int_max (saturate_to_bits h a) (saturate_to_bits h b) ≡ saturate_to_bits h (int_max a b)
max_held h (pos m) (pos n) = grind (arith, ints)
max_held h (pos m) (negsuc n) = grind (arith, ints)
max_held h (negsuc m) (pos n) = grind (arith, ints)
max_held h (negsuc m) (negsuc n) = grind (arith, ints)

pub held_alone : (h : ℕ) (z : ℤ) → nat_abs z < 2 ^ h → saturate_to_bits h z ≡ z
held_alone h (pos n) l = grind (arith, ints)
held_alone h (negsuc n) l = grind (arith, ints)

abbrev back : ℤ → ℤ
back z = to_z w64 (of_z w64 z)

-- what the code computes, held to 64 bits at each difference
pub excess_held : (low high s u a m r : ℤ) → SFits w64 low → SFits w64 high → SFits w64 s → SFits w64 u → SFits w64 a → SFits w64 m → SFits w64 r →
    u ≡ saturate_signed w64 (back low -ℤ back s) → a ≡ saturate_signed w64 (back s -ℤ back high) → m ≡ int_max (back u) (back a) →
    r ≡ int_max (pos 0) (back m) → back r ≡ saturate_signed w64 (excess low high s)
unfolding excess
excess_held low high s u a m r fl fh fs fu fa fm fr eu ea em er =
    let eu' : u ≡ saturate_signed w64 (low -ℤ s) = simp to_z-of_z at eu in
    let ea' : a ≡ saturate_signed w64 (s -ℤ high) = simp to_z-of_z at ea in
    let em' : m ≡ int_max u a = simp to_z-of_z at em in
    let er' : r ≡ int_max (pos 0) m = simp to_z-of_z at er in
    let h : int_max (saturate_signed w64 (low -ℤ s)) (saturate_signed w64 (s -ℤ high)) ≡ saturate_signed w64 (int_max (low -ℤ s) (s -ℤ high)) = max_held 63 (low -ℤ s) (s -ℤ high) in
    let k : int_max (pos 0) (saturate_signed w64 (int_max (low -ℤ s) (s -ℤ high))) ≡ saturate_signed w64 (int_max (pos 0) (int_max (low -ℤ s) (s -ℤ high))) = max_held 63 (pos 0) (int_max (low -ℤ s) (s -ℤ high)) in
    let em'' : m ≡ saturate_signed w64 (int_max (low -ℤ s) (s -ℤ high)) = rw (eu', ea') at em' ∙ h in
    to_z-of_z w64 r fr ∙ er' ∙ ap (int_max (pos 0)) em'' ∙ k

pub excess_alone : (low high s : ℤ) → Near low high s → saturate_signed w64 (excess low high s) ≡ excess low high s
unfolding excess
excess_alone low high s near =
    let hu : nat_abs (low -ℤ s) ≤ 536870912 + 2 ^ 54 = small_sub 536870912 (2 ^ 54) low s near.low_near near.sum_near in
    let ha : nat_abs (s -ℤ high) ≤ 2 ^ 54 + 536870912 = small_sub (2 ^ 54) 536870912 s high near.sum_near near.high_near in
    held_alone 63 _ (grind (arith, ints))
