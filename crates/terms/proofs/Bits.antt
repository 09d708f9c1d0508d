-- Numbers that went to bits and are read again.
use Rattle.std.proofs.Common.{◌≡◌, ℕ, ◌^◌, ◌<◌, ◌≤◌, List, ℤ, ◌+ℤ◌, ◌*ℤ◌, nat_abs, ap, ◌∙◌, arith, w64, SFits, to_z, of_z}
use Rattle.std.proofs.lemmas.Int.{ints, to_z-of_z}
use Rattle.duality.specs.Lists.{places}
use Rattle.duality.proofs.Sizes.{small_add}

abbrev pub back : ℤ → ℤ
back z = to_z w64 (of_z w64 z)

pub fits : (n : ℕ) (z : ℤ) → nat_abs z ≤ n → n < 2 ^ 63 → SFits w64 z
fits n z h l = omega (arith, ints)

pub back_is : (n : ℕ) (z : ℤ) → nat_abs z ≤ n → n < 2 ^ 63 → back z ≡ z
back_is n z h l = to_z-of_z w64 z (fits n z h l)

pub small_back : (n : ℕ) (z : ℤ) → nat_abs z ≤ n → n < 2 ^ 63 → nat_abs (back z) ≤ n
small_back n z h l = rw (back_is n z h l) h

pub small_of : (n : ℕ) (x v : ℤ) → x ≡ v → nat_abs v ≤ n → nat_abs x ≤ n
small_of n x v e h = rw e h

-- a result that is known, and a number of a list that is known, both as the next call takes them
pub back_of : (n : ℕ) (r v : ℤ) → r ≡ v → nat_abs v ≤ n → n < 2 ^ 63 → back r ≡ v
back_of n r v e h l = ap back e ∙ back_is n v h l

pub item_back : (b : ℕ) (xs ys : List ℤ) (i : ℕ) → xs ≡ ys → nat_abs (places ys i) ≤ b → b < 2 ^ 63 → back (places xs i) ≡ places ys i
item_back b xs ys i e small lt = back_of b (places xs i) (places ys i) (ap (λ (v : List ℤ). places v i) e) small lt

-- a sum t of which the code has s, and one product v w more, of which it has a b
module _ (s a b t v w : ℤ) (es : s ≡ t) (ea : a ≡ v) (eb : b ≡ w) (ht : nat_abs t ≤ 2 ^ 61) (hp : nat_abs (v *ℤ w) ≤ 2 ^ 61) where
  pub product_fits : SFits w64 (a *ℤ b)
  product_fits = rw (ea, eb) (fits _ (v *ℤ w) hp (omega arith))

  more_is : s +ℤ back (a *ℤ b) ≡ t +ℤ v *ℤ w
  more_is = let p : back (a *ℤ b) ≡ a *ℤ b = to_z-of_z w64 _ product_fits in cc

  pub sum_fits : SFits w64 (s +ℤ back (a *ℤ b))
  sum_fits = rw more_is (fits _ (t +ℤ v *ℤ w) (small_add (2 ^ 61) (2 ^ 61) t (v *ℤ w) ht hp) (omega arith))

  pub sum_more : back (s +ℤ back (a *ℤ b)) ≡ t +ℤ v *ℤ w
  sum_more = to_z-of_z w64 _ sum_fits ∙ more_is

-- the same of numbers that fit, as the code has them
module _ (s x y : ℤ) (fs : SFits w64 s) (fx : SFits w64 x) (fy : SFits w64 y) (hs : nat_abs s ≤ 2 ^ 61) (hp : nat_abs (x *ℤ y) ≤ 2 ^ 61) where
  whole_fits : SFits w64 (s +ℤ x *ℤ y)
  whole_fits = fits _ (s +ℤ x *ℤ y) (small_add (2 ^ 61) (2 ^ 61) s (x *ℤ y) hs hp) (omega arith)

  pub plus_product_fits : SFits w64 (back s +ℤ back (back x *ℤ back y))
  plus_product_fits =
      let fp : SFits w64 (x *ℤ y) = fits _ (x *ℤ y) hp (omega arith) in
      let ft : SFits w64 (s +ℤ x *ℤ y) = whole_fits in
      simp to_z-of_z ft

  pub plus_product_is : back (back s +ℤ back (back x *ℤ back y)) ≡ s +ℤ x *ℤ y
  plus_product_is =
      let fp : SFits w64 (x *ℤ y) = fits _ (x *ℤ y) hp (omega arith) in
      let ft : SFits w64 (s +ℤ x *ℤ y) = whole_fits in
      simp to_z-of_z
