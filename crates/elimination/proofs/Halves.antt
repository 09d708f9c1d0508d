-- A float within 2 ^ 38 either way, rounded and cast.
use Rattle.std.proofs.Common.{◌≡◌, ℕ, ◌+◌, ◌-◌, ◌*◌, ◌/◌, ◌^◌, ◌<◌, ◌≤◌, min, Bool, true, false, cond, ◌&&◌, T, pos, neg_ℤ, sym, ap, ◌∙◌, true≢false, div-lt_iff_lt-mul, mul-div_cancel, arith, ltb→lt}
use lib.Ieee.{Float, nan, inf, fin, binary64, up, down, round, lt, to_signed}
use lib.Ieee.Fits.{down_pos}
use lib.Ieee.Back.{round_whole}
use lib.Ieee.Exact.{HasValue}
use Rattle.std.specs.Float.{float_round, round_with}
use Rattle.elimination.specs.Nearest.{with_sign_of, half_away, nearest_whole, moderate}

-- the cast of a float that has a small whole value
pub cast_whole : (y : Float) (s : Bool) (q : ℕ) → q ≤ 2 ^ 38 → HasValue y s q 1 → to_signed 63 y ≡ with_sign_of s q
unfolding to_signed
cast_whole nan s q h v = absurd v
cast_whole (inf t) s q h v = absurd v
cast_whole (fin t m e) s q h v =
    let p = down_pos e in
    let w : m * up e ≡ q * down e = omega (arith, v.1) in
    let d : m * up e / down e ≡ q = ap (λ z. z / down e) w ∙ mul-div_cancel q p in
    rw (v.0, d) (sides s)
  where
    sides : (s : Bool) → cond s (neg_ℤ (pos (min q (2 ^ 63)))) (pos (min q (2 ^ 63 - 1))) ≡ with_sign_of s q
    sides true = let l : min q (2 ^ 63) ≡ q = omega arith in rw l
    sides false = let l : min q (2 ^ 63 - 1) ≡ q = omega arith in rw l

small_half : (n d : ℕ) → 0 < d → n < 2 ^ 38 * d → half_away n d ≤ 2 ^ 38
small_half n d p h =
    let q : 0 < 2 * d = omega arith in
    let l : half_away n d < 2 ^ 38 + 1 = (div-lt_iff_lt-mul q).1 (omega arith) in
    omega arith

pub nearest_is : (x : Float) → T (lt (fin true 1 (pos 38)) x) → T (lt x (fin false 1 (pos 38))) → to_signed 63 (float_round binary64 x) ≡ nearest_whole x
unfolding lt round_with
nearest_is nan a b = absurd b
nearest_is (inf true) a b = absurd a
nearest_is (inf false) a b = absurd b
nearest_is (fin true m e) a b =
    let h = ltb→lt _ _ a in
    let q = small_half (m * up e) (down e) (down_pos e) (omega arith) in
    cast_whole (round binary64 true (half_away (m * up e) (down e)) 1) true (half_away (m * up e) (down e)) q (round_whole binary64 true (half_away (m * up e) (down e)) (omega arith))
nearest_is (fin false m e) a b =
    let h = ltb→lt _ _ b in
    let q = small_half (m * up e) (down e) (down_pos e) (omega arith) in
    cast_whole (round binary64 false (half_away (m * up e) (down e)) 1) false (half_away (m * up e) (down e)) q (round_whole binary64 false (half_away (m * up e) (down e)) (omega arith))

both : (a b : Bool) → (a && b) ≡ true → T a × T b
both true true e = (tt, tt)
both true false e = absurd (true≢false (sym e))
both false b e = absurd (true≢false (sym e))

pub nearest_law : (x : Float) → moderate x ≡ true → to_signed 63 (float_round binary64 x) ≡ nearest_whole x
nearest_law x h = let p = both (lt (fin true 1 (pos 38)) x) (lt x (fin false 1 (pos 38))) h in nearest_is x p.0 p.1
