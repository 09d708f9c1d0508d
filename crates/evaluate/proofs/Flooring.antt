-- The floor and the refutation out of their sums.
use Rattle.std.proofs.Common.{◌≡◌, ◌+◌, ◌^◌, ◌≤◌, Bool, true, List, ℤ, pos, ◌+ℤ◌, ◌-ℤ◌, ◌*ℤ◌, nat_abs, ◌<ℤ◌, Decides, sym, refl, ap, ◌∙◌, arith, SFits}
use Rattle.terms.specs.Numbers.{ropes_of, rows_of}
use lib.Signed.{lt_z}
use mir.Syntax.{w128}
use Rattle.std.proofs.lemmas.Int.{ints}
use Rattle.duality.specs.Lists.{places}
use Rattle.duality.specs.Problem.{Problem, cost}
use Rattle.duality.specs.Sums.{Vector}
use Rattle.duality.specs.Floor.{slack, floor}
use Rattle.duality.specs.Refutation.{most_allowed, least_needed, Refutes}
use Rattle.duality.proofs.Sizes.{small_add}
use Rattle.duality.proofs.Refutation.{none_sound}
use Rattle.table.specs.Grid.{Grid}
use Rattle.evaluate.specs.Stated.{problem_of}
use Rattle.duality.specs.Tests.{many_within}
use Rattle.evaluate.specs.Floors.{slack_of_rows, slack_of_ropes, LeavesNone}
use Rattle.terms.specs.declared.numbers.Terms.{Terms}
use Rattle.evaluate.proofs.Slacking.{row_part, row_part_small, rope_part, rope_part_small, most_part, most_part_small, least_part, least_part_small}
use Rattle.evaluate.proofs.Widening.{wide, wide_fits, wide_of, parts_small}

module _ (g a : Grid) (t : Terms) (p y : List ℤ) (hp : many_within (ropes_of t) 32768 p ≡ true) (hy : many_within (rows_of t) 16777216 y ≡ true) where
  rows_small : nat_abs (slack_of_rows (problem_of g a t) (places p) (places y)) ≤ 2 ^ 115
  rows_small = parts_small (row_part a t p y hp hy) (row_part_small a t p y hp hy) (rows_of t) t.few

  ropes_small : nat_abs (slack_of_ropes (problem_of g a t) (places p) (places y)) ≤ 2 ^ 115
  ropes_small = parts_small (rope_part g a t p y hp hy) (rope_part_small g a t p y hp hy) (ropes_of t) (omega (arith, t.some.1))

  module _ (r s : ℤ) (er : r ≡ slack_of_rows (problem_of g a t) (places p) (places y)) (es : s ≡ slack_of_ropes (problem_of g a t) (places p) (places y)) where
    rows_wide : wide r ≡ slack_of_rows (problem_of g a t) (places p) (places y)
    rows_wide = wide_of (2 ^ 115) r _ er rows_small (omega arith)

    ropes_wide : wide s ≡ slack_of_ropes (problem_of g a t) (places p) (places y)
    ropes_wide = wide_of (2 ^ 115) s _ es ropes_small (omega arith)

    both_small : nat_abs (wide r +ℤ wide s) ≤ 2 ^ 115 + 2 ^ 115
    both_small =
        rw (rows_wide, ropes_wide)
        (small_add (2 ^ 115) (2 ^ 115) (slack_of_rows (problem_of g a t) (places p) (places y)) (slack_of_ropes (problem_of g a t) (places p) (places y)) rows_small ropes_small)

    pub both_fit : SFits w128 (wide r +ℤ wide s)
    both_fit = wide_fits (2 ^ 115 + 2 ^ 115) (wide r +ℤ wide s) both_small (omega arith)

    slack_wide : wide (wide r +ℤ wide s) ≡ slack (problem_of g a t) (places p) (places y)
    unfolding slack
    slack_wide =
        let d : wide r +ℤ wide s ≡ slack_of_rows (problem_of g a t) (places p) (places y) +ℤ slack_of_ropes (problem_of g a t) (places p) (places y) =
        ap (λ (x : ℤ). x +ℤ wide s) rows_wide ∙ ap (λ (x : ℤ). slack_of_rows (problem_of g a t) (places p) (places y) +ℤ x) ropes_wide in
        wide_of (2 ^ 115 + 2 ^ 115) (wide r +ℤ wide s) _ d
        (small_add (2 ^ 115) (2 ^ 115) (slack_of_rows (problem_of g a t) (places p) (places y)) (slack_of_ropes (problem_of g a t) (places p) (places y)) rows_small ropes_small)
        (omega arith)

    pub slack_small : nat_abs (wide (wide r +ℤ wide s)) ≤ 2 ^ 120
    slack_small = rw (wide_of (2 ^ 115 + 2 ^ 115) (wide r +ℤ wide s) _ refl both_small (omega arith)) (omega (arith, both_small))

    pub floor_is : (v f : ℤ) → v ≡ cost (problem_of g a t) (places p) → f ≡ pos 256 *ℤ v -ℤ pos 2 *ℤ wide (wide r +ℤ wide s) → f ≡ floor (problem_of g a t) (places p) (places y)
    floor_is v f ev ef = let d : wide (wide r +ℤ wide s) ≡ slack (problem_of g a t) (places p) (places y) = slack_wide in cc

lt_z_decides : (a b : ℤ) → Decides (lt_z a b) (a <ℤ b)
lt_z_decides a b = (λ h. grind (arith, ints), λ h. grind (arith, ints))

module _ (g a : Grid) (t : Terms) (y : List ℤ) (hy : many_within (rows_of t) 16777216 y ≡ true) where
  most_small : nat_abs (most_allowed (problem_of g a t) (places y)) ≤ 2 ^ 115
  unfolding most_allowed
  most_small = parts_small (most_part a t y hy) (most_part_small a t y hy) (ropes_of t) (omega (arith, t.some.1))

  least_small : nat_abs (least_needed (problem_of g a t) (places y)) ≤ 2 ^ 115
  unfolding least_needed
  least_small = parts_small (least_part a t y hy) (least_part_small a t y hy) (rows_of t) t.few

  pub compared : (m l : ℤ) → m ≡ most_allowed (problem_of g a t) (places y) → l ≡ least_needed (problem_of g a t) (places y) →
      lt_z (wide m) (wide l) ≡ lt_z (most_allowed (problem_of g a t) (places y)) (least_needed (problem_of g a t) (places y))
  compared m l em el =
      ap (λ (x : ℤ). lt_z x (wide l)) (wide_of (2 ^ 115) m _ em most_small (omega arith))
      ∙ ap (λ (x : ℤ). lt_z (most_allowed (problem_of g a t) (places y)) x) (wide_of (2 ^ 115) l _ el least_small (omega arith))

pub refutes_decides : (P : Problem) (y : Vector) (b : Bool) → b ≡ lt_z (most_allowed P y) (least_needed P y) → Decides b (Refutes P y)
refutes_decides P y b e =
    let d = lt_z_decides (most_allowed P y) (least_needed P y) in
    (λ h. d.0 (sym e ∙ h), λ h. e ∙ d.1 h)

-- Law: multipliers that refute leave no feasible point.
pub leaves_none : (P : Problem) (y : Vector) (b : Bool) → b ≡ lt_z (most_allowed P y) (least_needed P y) → LeavesNone P b
leaves_none P y b e h = none_sound P y ((refutes_decides P y b e).0 h)
