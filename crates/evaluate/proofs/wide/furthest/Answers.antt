use Rattle.std.proofs.Common.{◌≡◌, ◌^◌, ◌-ℤ◌, ◌*ℤ◌, arith, w64, SFits}
use Rattle.std.proofs.lemmas.Int.{to_z-of_z}
use Rattle.duality.proofs.Sizes.{small_sub}
use Rattle.terms.proofs.Bits.{fits}
use Rattle.evaluate.proofs.Widening.{furthest_is}
use Rattle.evaluate.proofs.wide.furthest.Goals as goal

pub returns : goal.returns
returns c =
    let w = c.args.w in
    let x = c.args.x in
    let low = c.args.low in
    let high = c.args.high in
    let fw : SFits w64 w = c.ranges.w in
    let fx : SFits w64 x = c.ranges.x in
    let fl : SFits w64 low = c.ranges.low in
    let fh : SFits w64 high = c.ranges.high in
    let dl : SFits w64 (x -ℤ low) = fits _ (x -ℤ low) (small_sub (2 ^ 54) 536870912 x low c.requires.x c.requires.low) (omega arith) in
    let dh : SFits w64 (x -ℤ high) = fits _ (x -ℤ high) (small_sub (2 ^ 54) 536870912 x high c.requires.x c.requires.high) (omega arith) in
    let ea : c.wide_product.result ≡ w *ℤ (x -ℤ low) = simp to_z-of_z at c.wide_product.ensures in
    let eb : c.wide_product-2.result ≡ w *ℤ (x -ℤ high) = simp to_z-of_z at c.wide_product-2.ensures in
    furthest_is w x low high _ _ c.max.result fw dl dh ea eb c.max.ensures.value
