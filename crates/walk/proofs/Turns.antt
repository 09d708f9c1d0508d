-- One turn of the walk: what is left of it, from the point that a move leads to.
use Rattle.std.proofs.Common.{◌≡◌, ℕ, zero, suc, ◌+◌, ◌-◌, ◌<◌, ◌≤◌, cond, List, ℤ, is_some, Some, None, Option, sym, ap, ◌∙◌, add-zero, arith}
use native.Mathlib.Nat.{sub-zero}
use Rattle.duality.specs.Problem.{Problem}
use Rattle.walk.specs.Moves.{after}
use Rattle.walk.specs.Walks.{first_move, Ended, one_more, onward, walk_from}
use Rattle.walk.specs.declared.moves.Move.{Move}
use Rattle.walk.specs.declared.ends.End.TheVariants.{Settled, Spent}

-- with n moves made before
abbrev pub plus : ℕ → Ended → Ended
plus n w = record { point = w.point; moves = w.moves + n; end = w.end }

plus_one : (n : ℕ) (x : Ended) → plus (n + 1) x ≡ plus n (one_more x)
plus_one n x = let count : x.moves + (n + 1) ≡ (x.moves + 1) + n = omega arith in ap (λ (i : ℕ). record { point = x.point; moves = i; end = x.end }) count

module _ (P : Problem) where
  walk_none : (b : ℕ) (z : List ℤ) → first_move P z ≡ None → walk_from P b z ≡ record { point = z; moves = 0; end = Settled }
  unfolding walk_from
  walk_none zero z e = ap (λ (r : Option Move). record { point = z; moves = 0; end = cond (is_some r) Spent Settled }) e
  walk_none (suc b) z e = ap (onward (walk_from P b) z) e

  walk_spent : (z : List ℤ) (m : Move) → first_move P z ≡ Some m → walk_from P 0 z ≡ record { point = z; moves = 0; end = Spent }
  unfolding walk_from
  walk_spent z m e = ap (λ (r : Option Move). record { point = z; moves = 0; end = cond (is_some r) Spent Settled }) e

  walk_step : (b : ℕ) (z : List ℤ) (m : Move) → first_move P z ≡ Some m → walk_from P (suc b) z ≡ one_more (walk_from P b (after z m))
  unfolding walk_from
  walk_step b z m e = ap (onward (walk_from P b) z) e

  pub walk_turn : (b n : ℕ) (z y : List ℤ) (m : Move) (w : Ended) → n < b → Some m ≡ first_move P z → y ≡ after z m → plus n (walk_from P (b - n) z) ≡ w →
      plus (n + 1) (walk_from P (b - (n + 1)) y) ≡ w
  walk_turn b n z y m w l e ey inv =
      let left : b - n ≡ suc (b - (n + 1)) = omega arith in
      let s : walk_from P (b - n) z ≡ one_more (walk_from P (b - (n + 1)) (after z m)) = ap (λ (i : ℕ). walk_from P i z) left ∙ walk_step (b - (n + 1)) z m (sym e) in
      ap (λ (v : List ℤ). plus (n + 1) (walk_from P (b - (n + 1)) v)) ey
      ∙ plus_one n (walk_from P (b - (n + 1)) (after z m))
      ∙ sym (ap (plus n) s)
      ∙ inv

  -- the walk is over after k moves, which is to say after n
  pub ends_settled : (b n k : ℕ) (z y : List ℤ) (w : Ended) → k ≡ n → None ≡ first_move P z → y ≡ z → plus n (walk_from P (b - n) z) ≡ w →
      ◌≡◌ {A = Ended} (record { point = y; moves = k; end = Settled }) w
  ends_settled b n k z y w ek e ey inv =
      let count : k ≡ 0 + n = omega arith in
      ap (λ (v : List ℤ). record { point = v; moves = k; end = Settled }) ey
      ∙ ap (λ (i : ℕ). record { point = z; moves = i; end = Settled }) count
      ∙ sym (ap (plus n) (walk_none (b - n) z (sym e)))
      ∙ inv

  pub ends_spent : (b n k : ℕ) (z y : List ℤ) (m : Move) (w : Ended) → k ≡ n → Some m ≡ first_move P z → y ≡ z → b ≤ n → plus n (walk_from P (b - n) z) ≡ w →
      ◌≡◌ {A = Ended} (record { point = y; moves = k; end = Spent }) w
  ends_spent b n k z y m w ek e ey l inv =
      let left : b - n ≡ 0 = omega arith in
      let count : k ≡ 0 + n = omega arith in
      ap (λ (v : List ℤ). record { point = v; moves = k; end = Spent }) ey
      ∙ ap (λ (i : ℕ). record { point = z; moves = i; end = Spent }) count
      ∙ sym (ap (plus n) (ap (λ (i : ℕ). walk_from P i z) left ∙ walk_spent z m (sym e)))
      ∙ inv

pub from_start : (P : Problem) (b : ℕ) (z : List ℤ) → plus 0 (walk_from P (b - 0) z) ≡ walk_from P b z
from_start P b z =
    let count : (w : Ended) → plus 0 w ≡ w = λ w. ap (λ (n : ℕ). record { point = w.point; moves = n; end = w.end }) (add-zero w.moves) in
    ap (λ (n : ℕ). plus 0 (walk_from P n z)) (sub-zero b) ∙ count (walk_from P b z)
