-- Bytes and numbers, there and back.
use Rattle.std.proofs.Common.{◌≡◌, ℕ, ◌+◌, ◌*◌, ◌/◌, ◌%◌, ◌<◌, List, [], ◌∷◌, ℤ, sym, ap, ◌∙◌, arith, w32, SFits, to_z, of_z}
use mir.ValLaws.{of_z_fits}
use Rattle.std.proofs.lemmas.Int.{to_z-of_z, of_z-to_z}
use Rattle.std.proofs.lemmas.Nat.{div-add-mod'}
use Rattle.block.specs.Bytes.{bytes4}

-- what is left of four bytes past the first, the second and the third
module _ (a b c d : ℕ) (ha : a < 256) (hb : b < 256) (hc : c < 256) (hd : d < 256) where
  over_1 : (a + b * 256 + c * 65536 + d * 16777216) / 256 ≡ b + c * 256 + d * 65536
  over_1 = omega arith

  over_2 : (a + b * 256 + c * 65536 + d * 16777216) / 65536 ≡ c + d * 256
  over_2 = omega arith

  over_3 : (a + b * 256 + c * 65536 + d * 16777216) / 16777216 ≡ d
  over_3 = omega arith

  digit_0 : (a + b * 256 + c * 65536 + d * 16777216) % 256 ≡ a
  digit_0 = omega arith

  digit_1 : (a + b * 256 + c * 65536 + d * 16777216) / 256 % 256 ≡ b
  digit_1 = ap (λ n. n % 256) over_1 ∙ omega arith

  digit_2 : (a + b * 256 + c * 65536 + d * 16777216) / 65536 % 256 ≡ c
  digit_2 = ap (λ n. n % 256) over_2 ∙ omega arith

  digit_3 : (a + b * 256 + c * 65536 + d * 16777216) / 16777216 % 256 ≡ d
  digit_3 = ap (λ n. n % 256) over_3 ∙ omega arith

  -- four bytes are the bytes of the number that they write
  pub four_back : bytes4 (to_z w32 (a + b * 256 + c * 65536 + d * 16777216)) ≡ a ∷ b ∷ c ∷ d ∷ []
  four_back =
      let F : ℕ → List ℕ = λ n. (n % 256) ∷ (n / 256 % 256) ∷ (n / 65536 % 256) ∷ (n / 16777216 % 256) ∷ [] in
      ap F (of_z-to_z w32 (a + b * 256 + c * 65536 + d * 16777216) (omega arith)) ∙ (rw (digit_0, digit_1, digit_2, digit_3))

joined_up : (n m₁ m₂ m₃ r₀ r₁ r₂ : ℕ) → n ≡ m₁ * 256 + r₀ → m₁ ≡ m₂ * 256 + r₁ → m₂ ≡ m₃ * 256 + r₂ → r₀ + r₁ * 256 + r₂ * 65536 + m₃ * 16777216 ≡ n
joined_up n m₁ m₂ m₃ r₀ r₁ r₂ e f g = omega arith

-- a number below 2 ^ 32 is what its four bytes write
pub digits_back : (n : ℕ) → n < 4294967296 → n % 256 + n / 256 % 256 * 256 + n / 65536 % 256 * 65536 + n / 16777216 % 256 * 16777216 ≡ n
digits_back n h =
    let p : n / 65536 ≡ n / 256 / 256 = omega arith in
    let q : n / 16777216 ≡ n / 65536 / 256 = omega arith in
    let top : n / 16777216 < 256 = omega arith in
    let last : n / 16777216 % 256 ≡ n / 16777216 = omega arith in
    ap (λ t. n % 256 + n / 256 % 256 * 256 + n / 65536 % 256 * 65536 + t * 16777216) last
    ∙ joined_up n (n / 256) (n / 65536) (n / 16777216) (n % 256) (n / 256 % 256) (n / 65536 % 256)
    (sym (div-add-mod' n 256)) (sym (ap (λ t. t * 256 + n / 256 % 256) p ∙ div-add-mod' (n / 256) 256)) (sym (ap (λ t. t * 256 + n / 65536 % 256) q ∙ div-add-mod' (n / 65536) 256))

-- the number that the four bytes of a number write is that number
pub num_back : (z : ℤ) → SFits w32 z → to_z w32 (of_z w32 z % 256 + of_z w32 z / 256 % 256 * 256 + of_z w32 z / 65536 % 256 * 65536 + of_z w32 z / 16777216 % 256 * 16777216) ≡ z
num_back z f = ap (to_z w32) (digits_back (of_z w32 z) (of_z_fits w32 z f).fits) ∙ to_z-of_z w32 z f

-- a number below 65536 and its two bytes
pub two_back : (n : ℕ) → n < 65536 → n % 256 + n / 256 % 256 * 256 ≡ n
two_back n h = omega arith
