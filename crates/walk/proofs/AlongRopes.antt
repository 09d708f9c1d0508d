-- One turn of the search along the ropes.
use Rattle.std.proofs.Common.{◌≡◌, ℕ, ◌+◌, ◌-◌, ◌<◌, ◌≤◌, Bool, true, false, cond, List, ℤ, is_some, Some, None, Option, sym, refl, ap, ◌∙◌, arith}
use native.Mathlib.Nat.{sub-zero}
use Rattle.duality.specs.Problem.{Problem}
use Rattle.walk.specs.Lowering.{lowers}
use Rattle.walk.specs.Moves.{of_rope}
use Rattle.walk.specs.Walks.{first, first_move, moved}
use Rattle.walk.specs.declared.moves.Move.{Move}
use Rattle.walk.proofs.Firsts.{ropes_from, ropes_start, ropes_more, ropes_none, first_after, first_before}

pub either_stands : (b : Bool) (z : List ℤ) → cond b z z ≡ z
either_stands true z = refl
either_stands false z = refl

module _ (P : Problem) (z : List ℤ) where
  pub ropes_holds : first (lowers P z) (ropes_from 0 (P.ropes - 0)) ≡ first_move P z
  unfolding first_move
  ropes_holds = ap (first (lowers P z)) (ap (ropes_from 0) (sub-zero P.ropes) ∙ ropes_start P.ropes)

  pub ropes_end : (k : ℕ) → P.ropes ≤ k → first (lowers P z) (ropes_from k (P.ropes - k)) ≡ first_move P z → None ≡ first_move P z
  unfolding first
  ropes_end k l e = sym (ap (first (lowers P z)) (ropes_none k P.ropes l)) ∙ e

  pub rope_hit : (w : List ℤ) (k : ℕ) (r : Option Move) → w ≡ z → k < P.ropes → first (lowers P z) (ropes_from k (P.ropes - k)) ≡ first_move P z →
      r ≡ first (lowers P w) (of_rope k) → true ≡ is_some r → r ≡ first_move P z
  rope_hit w k None ew l inv er t = let c : ◌≡◌ {A = ℕ} 0 1 = cc in absurd (omega arith)
  rope_hit w k (Some m) ew l inv er t =
      let e : first (lowers P z) (of_rope k) ≡ Some m = sym (er ∙ ap (λ (v : List ℤ). first (lowers P v) (of_rope k)) ew) in
      sym (first_before (lowers P z) (of_rope k) (ropes_from (k + 1) (P.ropes - (k + 1))) m e) ∙ sym (ap (first (lowers P z)) (ropes_more k P.ropes l)) ∙ inv

  pub rope_miss : (w : List ℤ) (k : ℕ) (r : Option Move) → w ≡ z → k < P.ropes → first (lowers P z) (ropes_from k (P.ropes - k)) ≡ first_move P z →
      r ≡ first (lowers P w) (of_rope k) → false ≡ is_some r → first (lowers P z) (ropes_from (k + 1) (P.ropes - (k + 1))) ≡ first_move P z
  rope_miss w k (Some m) ew l inv er t = let c : ◌≡◌ {A = ℕ} 0 1 = cc in absurd (omega arith)
  rope_miss w k None ew l inv er t =
      let e : first (lowers P z) (of_rope k) ≡ None = sym (er ∙ ap (λ (v : List ℤ). first (lowers P v) (of_rope k)) ew) in
      sym (first_after (lowers P z) (of_rope k) (ropes_from (k + 1) (P.ropes - (k + 1))) e) ∙ sym (ap (first (lowers P z)) (ropes_more k P.ropes l)) ∙ inv

pub rope_point : (z w y : List ℤ) (r : Option Move) (b : Bool) → w ≡ z → y ≡ cond b (moved r w) w → y ≡ cond b (moved r z) z
rope_point z w y r b ew e = e ∙ ap (λ (v : List ℤ). cond b (moved r v) v) ew

pub miss_point : (z w y : List ℤ) (r : Option Move) (b : Bool) → w ≡ z → y ≡ cond b (moved r w) w → false ≡ is_some r → y ≡ z
miss_point z w y (Some m) b ew e t = let c : ◌≡◌ {A = ℕ} 0 1 = cc in absurd (omega arith)
miss_point z w y None b ew e t = e ∙ either_stands b w ∙ ew
