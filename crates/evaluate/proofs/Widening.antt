-- Numbers of 128 bits: products, differences and sums that fit.
use Rattle.std.proofs.Common.{◌≡◌, ℕ, ◌+◌, ◌*◌, ◌^◌, ◌<◌, ◌≤◌, ℤ, pos, ◌+ℤ◌, ◌-ℤ◌, ◌*ℤ◌, nat_abs, ap, ◌∙◌, le_refl, mul-le-mul, arith, w64, SFits, to_z, of_z}
use mir.Syntax.{w128}
use Rattle.std.proofs.lemmas.Int.{ints, to_z-of_z}
use Rattle.std.specs.Int.{int_max}
use Rattle.duality.specs.Sums.{Vector, ∑}
use Rattle.duality.specs.Floor.{furthest}
use Rattle.duality.proofs.Sizes.{sizes, small_add, small_sub, small_mul, small_max, small-∑}
use Rattle.duality.proofs.Sums.{∑-more}
use Rattle.terms.proofs.Bits.{back}

abbrev pub wide : ℤ → ℤ
wide z = to_z w128 (of_z w128 z)

pub wide_fits : (n : ℕ) (z : ℤ) → nat_abs z ≤ n → n < 2 ^ 127 → SFits w128 z
wide_fits n z h l = omega (arith, ints)

pub wide_of : (n : ℕ) (r v : ℤ) → r ≡ v → nat_abs v ≤ n → n < 2 ^ 127 → wide r ≡ v
wide_of n r v e h l = ap wide e ∙ to_z-of_z w128 v (wide_fits n v h l)

pub word_small : (x : ℤ) → SFits w64 x → nat_abs x ≤ 2 ^ 63
word_small x f = omega (arith, ints, sizes)

pub product_small : (x y : ℤ) → SFits w64 x → SFits w64 y → nat_abs (x *ℤ y) ≤ 2 ^ 126
product_small x y f g = omega (arith, small_mul (2 ^ 63) (2 ^ 63) x y (word_small x f) (word_small y g))

pub product_is : (x y : ℤ) → SFits w64 x → SFits w64 y → wide (wide (back x) *ℤ wide (back y)) ≡ x *ℤ y
product_is x y f g =
    let fx : SFits w128 x = wide_fits (2 ^ 63) x (word_small x f) (omega arith) in
    let fy : SFits w128 y = wide_fits (2 ^ 63) y (word_small y g) (omega arith) in
    let fp : SFits w128 (x *ℤ y) = wide_fits (2 ^ 126) (x *ℤ y) (product_small x y f g) (omega arith) in
    simp to_z-of_z

pub less_slack_is : (c s : ℤ) → SFits w64 c → nat_abs s ≤ 2 ^ 120 → wide (wide (pos 256 *ℤ wide (back c)) -ℤ wide (pos 2 *ℤ wide s)) ≡ pos 256 *ℤ c -ℤ pos 2 *ℤ s
less_slack_is c s f h =
    let hc = small_mul 256 (2 ^ 63) (pos 256) c (omega arith) (word_small c f) in
    let hs = small_mul 2 (2 ^ 120) (pos 2) s (omega arith) h in
    let fc : SFits w128 c = wide_fits (2 ^ 63) c (word_small c f) (omega arith) in
    let fs : SFits w128 s = wide_fits (2 ^ 120) s h (omega arith) in
    let fm : SFits w128 (pos 256 *ℤ c) = wide_fits (256 * 2 ^ 63) (pos 256 *ℤ c) hc (omega arith) in
    let ft : SFits w128 (pos 2 *ℤ s) = wide_fits (2 * 2 ^ 120) (pos 2 *ℤ s) hs (omega arith) in
    let fd : SFits w128 (pos 256 *ℤ c -ℤ pos 2 *ℤ s) =
    wide_fits (256 * 2 ^ 63 + 2 * 2 ^ 120) (pos 256 *ℤ c -ℤ pos 2 *ℤ s) (small_sub (256 * 2 ^ 63) (2 * 2 ^ 120) (pos 256 *ℤ c) (pos 2 *ℤ s) hc hs) (omega arith) in
    simp to_z-of_z

pub less_slack_small : (c s : ℤ) → SFits w64 c → nat_abs s ≤ 2 ^ 120 → nat_abs (pos 256 *ℤ c -ℤ pos 2 *ℤ s) ≤ 2 ^ 122
less_slack_small c s f h =
    let hc = small_mul 256 (2 ^ 63) (pos 256) c (omega arith) (word_small c f) in
    let hs = small_mul 2 (2 ^ 120) (pos 2) s (omega arith) h in
    omega (arith, small_sub (256 * 2 ^ 63) (2 * 2 ^ 120) (pos 256 *ℤ c) (pos 2 *ℤ s) hc hs)

pub furthest_is : (w x low high a b m : ℤ) → SFits w64 w → SFits w64 (x -ℤ low) → SFits w64 (x -ℤ high) → a ≡ w *ℤ (x -ℤ low) → b ≡ w *ℤ (x -ℤ high) →
    m ≡ int_max (wide a) (wide b) → wide m ≡ furthest w x low high
furthest_is w x low high a b m fw fl fh ea eb em =
    let hl = product_small w (x -ℤ low) fw fl in
    let hh = product_small w (x -ℤ high) fw fh in
    let da : wide a ≡ w *ℤ (x -ℤ low) = wide_of (2 ^ 126) a _ ea hl (omega arith) in
    let db : wide b ≡ w *ℤ (x -ℤ high) = wide_of (2 ^ 126) b _ eb hh (omega arith) in
    let d : m ≡ furthest w x low high = cc in
    wide_of (2 ^ 126) m _ d (small_max (2 ^ 126) (w *ℤ (x -ℤ low)) (w *ℤ (x -ℤ high)) hl hh) (omega arith)

-- a sum of up to 32 parts
module _ (f : Vector) (small : (k : ℕ) → nat_abs (f k) ≤ 2 ^ 110) where
  pub parts_small : (i : ℕ) → i ≤ 32 → nat_abs (∑ i f) ≤ 2 ^ 115
  parts_small i l =
      omega (arith, small-∑ i (2 ^ 110) f (λ k _. small k), mul-le-mul {n₁ = i} {m₁ = 2 ^ 110} {n₂ = 32} {m₂ = 2 ^ 110} l (le_refl (2 ^ 110)))

  turn_small : (i : ℕ) (s r : ℤ) → i ≤ 32 → s ≡ ∑ i f → r ≡ f i → nat_abs (s +ℤ wide r) ≤ 2 ^ 115 + 2 ^ 110
  turn_small i s r l es er =
      let b : wide r ≡ f i = wide_of (2 ^ 110) r _ er (small i) (omega arith) in
      rw (es, b) (small_add (2 ^ 115) (2 ^ 110) (∑ i f) (f i) (parts_small i l) (small i))

  pub turn_fits : (i : ℕ) (s r : ℤ) → i ≤ 32 → s ≡ ∑ i f → r ≡ f i → SFits w128 (s +ℤ wide r)
  turn_fits i s r l es er = wide_fits (2 ^ 115 + 2 ^ 110) (s +ℤ wide r) (turn_small i s r l es er) (omega arith)

  pub turn_more : (i : ℕ) (s r : ℤ) → i ≤ 32 → s ≡ ∑ i f → r ≡ f i → wide (s +ℤ wide r) ≡ ∑ (i + 1) f
  turn_more i s r l es er =
      let b : wide r ≡ f i = wide_of (2 ^ 110) r _ er (small i) (omega arith) in
      let m : ∑ (i + 1) f ≡ ∑ i f +ℤ f i = ∑-more i f in
      let d : s +ℤ wide r ≡ ∑ (i + 1) f = cc in
      to_z-of_z w128 (s +ℤ wide r) (turn_fits i s r l es er) ∙ d
