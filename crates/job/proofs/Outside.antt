-- The ticks outside, as a loop adds them up, and the law of them.
use Rattle.std.proofs.Common.{◌≡◌, ℕ, ◌+◌, ◌*◌, ◌^◌, ◌≤◌, Bool, true, false, List, ℤ, pos, ◌+ℤ◌, nat_abs, ◌≤ℤ◌, sym, ap, ◌∙◌, le_refl, mul-le-mul, arith, w64}
use Rattle.std.proofs.lemmas.Int.{to_z-of_z, clamps}
use Rattle.std.proofs.lemmas.Bool.{both_ways}
use Rattle.duality.specs.Lists.{places}
use Rattle.duality.specs.Sums.{Vector, ∑}
use Rattle.duality.specs.Problem.{Problem, row_at}
use Rattle.duality.proofs.Ring.{lin}
use Rattle.duality.proofs.Sums.{∑-more, ∑-cong, ∑-zero, ∑-pick}
use Rattle.duality.proofs.Sizes.{sizes, small_add, small-∑}
use Rattle.job.specs.Numbers.{problem_of}
use Rattle.duality.specs.Tests.{many_within}
use Rattle.terms.specs.Findings.{RowKept, keeps_row}
use Rattle.job.specs.Rows.{outside, RowsMet, MetInside}
use Rattle.terms.specs.Ticks.{excess, Near}
use Rattle.duality.specs.Tests.{between}
use Rattle.job.specs.declared.numbers.Job.{Job}
use Rattle.terms.proofs.Bits.{back, fits, back_of, small_of}
use Rattle.duality.proofs.Tests.{between_parts, between_from}
use Rattle.terms.proofs.Reading.{lo_small, hi_small, many_small}
use Rattle.job.proofs.Reading.{row_small}

pub excess_small : (low high s : ℤ) (b c : ℕ) → nat_abs low ≤ b → nat_abs high ≤ b → nat_abs s ≤ c → nat_abs (excess low high s) ≤ b + c
unfolding excess
excess_small low high s b c hl hh hs = omega (arith, sizes, clamps)

pub excess_nonneg : (low high s : ℤ) → pos 0 ≤ℤ excess low high s
unfolding excess
excess_nonneg low high s = omega (arith, lin, clamps)

excess_none : (low high s : ℤ) → low ≤ℤ s → s ≤ℤ high → excess low high s ≡ pos 0
unfolding excess
excess_none low high s h k = omega (arith, lin, clamps)

excess_above : (low high s : ℤ) → excess low high s ≤ℤ pos 0 → (low ≤ℤ s) × (s ≤ℤ high)
unfolding excess
excess_above low high s h = (omega (arith, lin, clamps), omega (arith, lin, clamps))

-- Law: no tick outside is every row met.
pub met_inside : (P : Problem) (z : Vector) (o : ℤ) → o ≡ outside P z → MetInside P z o
unfolding outside
met_inside P z o e = (met, none)
  where
    ticks : Vector
    ticks i = excess (P.lo i) (P.hi i) (row_at P z i)

    met : o ≡ pos 0 → RowsMet P z
    met h i l =
        let one : ticks i ≤ℤ ∑ P.rows ticks = ∑-pick P.rows ticks i l (λ k _ _. excess_nonneg (P.lo k) (P.hi k) (row_at P z k)) in
        let all : ∑ P.rows ticks ≡ pos 0 = sym e ∙ h in
        excess_above (P.lo i) (P.hi i) (row_at P z i) (rw all at one)

    none : RowsMet P z → o ≡ pos 0
    none h =
        e
        ∙ ∑-cong P.rows ticks (λ _. pos 0) (λ i l. excess_none (P.lo i) (P.hi i) (row_at P z i) (h i l).0 (h i l).1)
        ∙ ∑-zero P.rows

-- row i's part
abbrev pub outside_part : Job → List ℤ → Vector
outside_part j z i = excess ((problem_of j).lo i) ((problem_of j).hi i) (row_at (problem_of j) (places z) i)

pub part_is : (j : Job) (z : List ℤ) (i : ℕ) (low high s r : ℤ) → low ≡ (problem_of j).lo i → high ≡ (problem_of j).hi i → s ≡ row_at (problem_of j) (places z) i →
    r ≡ excess low high s → r ≡ outside_part j z i
part_is j z i low high s r el eh es er = cc

pub meets_is : (j : Job) (z : List ℤ) (i : ℕ) (low high s : ℤ) (b : Bool) → low ≡ (problem_of j).lo i → high ≡ (problem_of j).hi i → s ≡ row_at (problem_of j) (places z) i →
    b ≡ between low high s → keeps_row (problem_of j) (places z) i ≡ b
meets_is j z i low high s b el eh es e = cc

pub row_met : (P : Problem) (z : Vector) (i : ℕ) → keeps_row P z i ≡ true → RowKept P z i
row_met P z i e = between_parts (P.lo i) (P.hi i) (row_at P z i) e

pub row_broken : (P : Problem) (z : Vector) (i : ℕ) → keeps_row P z i ≡ false → RowKept P z i → ⊥
row_broken P z i e h = both_ways (keeps_row P z i) e (between_from (P.lo i) (P.hi i) (row_at P z i) h.0 h.1)

module _ (j : Job) (z : List ℤ) (p : many_within (problem_of j).ropes 32768 z ≡ true) where
  pub row_at_small : (i : ℕ) → nat_abs (row_at (problem_of j) (places z) i) ≤ 2 ^ 39
  row_at_small i = row_small j (places z) 32768 i (many_small (problem_of j).ropes 32768 z p)

  pub row_back : (i : ℕ) (r : ℤ) → r ≡ row_at (problem_of j) (places z) i → back r ≡ row_at (problem_of j) (places z) i
  row_back i r e = back_of (2 ^ 39) r _ e (row_at_small i) (omega arith)

  -- so near that a row's ticks are exact
  pub row_near : (i : ℕ) (low high s : ℤ) → low ≡ (problem_of j).lo i → high ≡ (problem_of j).hi i → s ≡ row_at (problem_of j) (places z) i → Near low high s
  row_near i low high s el eh es =
      record {
        low_near = small_of 536870912 _ _ el (lo_small j.terms i);
        high_near = small_of 536870912 _ _ eh (hi_small j.terms i);
        sum_near = small_of (2 ^ 54) _ _ es (omega (arith, row_at_small i));
      }

  part_small : (i : ℕ) → nat_abs (outside_part j z i) ≤ 2 ^ 40
  part_small i = omega (arith, excess_small ((problem_of j).lo i) ((problem_of j).hi i) (row_at (problem_of j) (places z) i) 536870912 (2 ^ 39) (lo_small j.terms i) (hi_small j.terms i) (row_at_small i))

  pub turn_small : (i : ℕ) (t r : ℤ) → i ≤ (problem_of j).rows → t ≡ ∑ i (outside_part j z) → r ≡ outside_part j z i → nat_abs (t +ℤ back r) ≤ 2 ^ 46
  turn_small i t r l et er =
      let b : back r ≡ outside_part j z i = back_of (2 ^ 40) r _ er (part_small i) (omega arith) in
      let s = small-∑ i (2 ^ 40) (outside_part j z) (λ k _. part_small k) in
      let m = mul-le-mul {n₁ = i} {m₁ = 2 ^ 40} {n₂ = 32} {m₂ = 2 ^ 40} (omega (arith, j.terms.few)) (le_refl (2 ^ 40)) in
      rw (et, b) (omega (arith, small_add (i * 2 ^ 40) (2 ^ 40) (∑ i (outside_part j z)) (outside_part j z i) s (part_small i)))

  pub outside_more : (i : ℕ) (t r : ℤ) → i ≤ (problem_of j).rows → t ≡ ∑ i (outside_part j z) → r ≡ outside_part j z i → back (t +ℤ back r) ≡ ∑ (i + 1) (outside_part j z)
  outside_more i t r l et er =
      let b : back r ≡ outside_part j z i = back_of (2 ^ 40) r _ er (part_small i) (omega arith) in
      let m : ∑ (i + 1) (outside_part j z) ≡ ∑ i (outside_part j z) +ℤ outside_part j z i = ∑-more i (outside_part j z) in
      let d : t +ℤ back r ≡ ∑ (i + 1) (outside_part j z) = cc in
      to_z-of_z w64 (t +ℤ back r) (fits (2 ^ 46) (t +ℤ back r) (turn_small i t r l et er) (omega arith)) ∙ d

  pub outside_all : (i : ℕ) (t : ℤ) → i ≡ (problem_of j).rows → t ≡ ∑ i (outside_part j z) → t ≡ outside (problem_of j) (places z)
  unfolding outside
  outside_all i t e et = et ∙ ap (λ (n : ℕ). ∑ n (outside_part j z)) e
