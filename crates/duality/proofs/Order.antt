-- The order of ℤ beside its product: signs, monotone products, and a product over an interval.
use Rattle.std.proofs.Common.{◌⊎◌, ℤ, pos, negsuc, ◌-ℤ◌, ◌*ℤ◌, neg_ℤ, ◌≤ℤ◌, inl, inr, ⊎_elim, arith}
use Rattle.std.specs.Int.{int_max, int_min}
use Rattle.std.proofs.lemmas.Int.{clamps}
use Rattle.duality.proofs.Ring.{lin, ring}

pub either_sign : (a : ℤ) → (pos 0 ≤ℤ a) ⊎ (a ≤ℤ pos 0)
either_sign (pos n) = inl (omega (arith, lin))
either_sign (negsuc n) = inr (omega (arith, lin))

pub *ℤ-nonneg : (a b : ℤ) → pos 0 ≤ℤ a → pos 0 ≤ℤ b → pos 0 ≤ℤ (a *ℤ b)
*ℤ-nonneg (pos a) (pos b) h k = omega (arith, lin)
*ℤ-nonneg (pos a) (negsuc b) h k = absurd (omega (arith, lin))
*ℤ-nonneg (negsuc a) b h k = absurd (omega (arith, lin))

pub square_nonneg : (a : ℤ) → pos 0 ≤ℤ (a *ℤ a)
square_nonneg (pos a) = omega (arith, lin)
square_nonneg (negsuc a) = omega (arith, lin)

-- an order times what is not negative stays, and times what is not positive turns round
pub *ℤ-le : (a b c : ℤ) → pos 0 ≤ℤ a → b ≤ℤ c → (a *ℤ b) ≤ℤ (a *ℤ c)
*ℤ-le a b c h k =
    let e : pos 0 ≤ℤ (a *ℤ (c -ℤ b)) = *ℤ-nonneg a (c -ℤ b) h (omega (arith, lin)) in
    omega (arith, lin, simp ring at e)

pub *ℤ-ge : (a b c : ℤ) → a ≤ℤ pos 0 → b ≤ℤ c → (a *ℤ c) ≤ℤ (a *ℤ b)
*ℤ-ge a b c h k =
    let e : pos 0 ≤ℤ (neg_ℤ a *ℤ (c -ℤ b)) = *ℤ-nonneg (neg_ℤ a) (c -ℤ b) (omega (arith, lin)) (omega (arith, lin)) in
    omega (arith, lin, simp ring at e)

-- over an interval a product is extreme at an end, whatever the sign of the factor
pub *ℤ-between : (w v a b : ℤ) → a ≤ℤ v → v ≤ℤ b → (int_min (w *ℤ a) (w *ℤ b) ≤ℤ (w *ℤ v)) × ((w *ℤ v) ≤ℤ int_max (w *ℤ a) (w *ℤ b))
*ℤ-between w v a b h k = ⊎_elim rising falling (either_sign w)
  where
    Claim : Type 0
    Claim = (int_min (w *ℤ a) (w *ℤ b) ≤ℤ (w *ℤ v)) × ((w *ℤ v) ≤ℤ int_max (w *ℤ a) (w *ℤ b))

    rising : pos 0 ≤ℤ w → Claim
    rising s =
        let below : (w *ℤ a) ≤ℤ (w *ℤ v) = *ℤ-le w a v s h in
        let above : (w *ℤ v) ≤ℤ (w *ℤ b) = *ℤ-le w v b s k in
        (omega (arith, lin, clamps), omega (arith, lin, clamps))

    falling : w ≤ℤ pos 0 → Claim
    falling s =
        let above : (w *ℤ v) ≤ℤ (w *ℤ a) = *ℤ-ge w a v s h in
        let below : (w *ℤ b) ≤ℤ (w *ℤ v) = *ℤ-ge w v b s k in
        (omega (arith, lin, clamps), omega (arith, lin, clamps))
