-- How the cost changes with one rope, as 64-bit numbers give it.
use Rattle.std.proofs.Common.{◌≡◌, ◌^◌, ◌≤◌, ℤ, ◌+ℤ◌, ◌*ℤ◌, nat_abs, arith, lit<, w64, SFits}
use Rattle.std.proofs.lemmas.Int.{to_z-of_z}
use Rattle.duality.proofs.Sizes.{small_add, small_mul}
use Rattle.terms.proofs.Bits.{back, fits}
use Rattle.walk.specs.Running.{gain_of}

module _ (slope curve d : ℤ) (hs : nat_abs slope ≤ 2 ^ 41) (hc : nat_abs curve ≤ 1048576) (hd : nat_abs d ≤ 16384) where
  bent : nat_abs (curve *ℤ d) ≤ 2 ^ 34
  bent = small_mul 1048576 16384 curve d hc hd

  steep : nat_abs (slope +ℤ curve *ℤ d) ≤ 2 ^ 42
  steep = omega (arith, small_add (2 ^ 41) (2 ^ 34) slope (curve *ℤ d) hs bent)

  pub gain_small : nat_abs (gain_of slope curve d) ≤ 2 ^ 56
  unfolding gain_of
  gain_small = small_mul 16384 (2 ^ 42) d (slope +ℤ curve *ℤ d) hd steep

  gain_in : SFits w64 (d *ℤ (slope +ℤ curve *ℤ d))
  gain_in = fits (2 ^ 56) _ (small_mul 16384 (2 ^ 42) d (slope +ℤ curve *ℤ d) hd steep) (lit< tt)

  pub gain_fits : SFits w64 (back d *ℤ back (back slope +ℤ back (back curve *ℤ back d)))
  gain_fits =
      let fs : SFits w64 slope = fits (2 ^ 41) slope hs (lit< tt) in
      let fc : SFits w64 curve = fits 1048576 curve hc (lit< tt) in
      let fd : SFits w64 d = fits 16384 d hd (lit< tt) in
      let fb : SFits w64 (curve *ℤ d) = fits (2 ^ 34) _ bent (lit< tt) in
      let ft : SFits w64 (slope +ℤ curve *ℤ d) = fits (2 ^ 42) _ steep (lit< tt) in
      simp to_z-of_z gain_in

  pub gain_is : back (back d *ℤ back (back slope +ℤ back (back curve *ℤ back d))) ≡ gain_of slope curve d
  unfolding gain_of
  gain_is =
      let fs : SFits w64 slope = fits (2 ^ 41) slope hs (lit< tt) in
      let fc : SFits w64 curve = fits 1048576 curve hc (lit< tt) in
      let fd : SFits w64 d = fits 16384 d hd (lit< tt) in
      let fb : SFits w64 (curve *ℤ d) = fits (2 ^ 34) _ bent (lit< tt) in
      let ft : SFits w64 (slope +ℤ curve *ℤ d) = fits (2 ^ 42) _ steep (lit< tt) in
      let fg : SFits w64 (d *ℤ (slope +ℤ curve *ℤ d)) = gain_in in
      simp to_z-of_z
