use Rattle.std.proofs.Common.{◌≡◌, ℕ, ◌-◌, ◌≤◌, true, eqb, List, ◌++◌, length, take, drop, ℤ, ap, ◌∙◌, subst, arith, eq-eqb}
use native.Mathlib.Nat.{sub-zero}
use borrow.Rule.Slice.PartMut.{post_of}
use Rattle.std.proofs.lemmas.List.{length-take-le}
use Rattle.job.specs.Numbers.{problem_of}
use Rattle.job.specs.Bounds.{clamped}
use Rattle.job.specs.declared.numbers.Job.{Job}
use Rattle.exchange.specs.Offers.{inside_bounds}
use Rattle.exchange.proofs.offers.point_of.Goals as goal

held_inside : (j : Job) (m : ℕ) (z ys : List ℤ) → m ≡ (problem_of j).ropes → (problem_of j).ropes ≤ length z → ys ≡ clamped (problem_of j) (take (m - 0) z) →
    ys ++ post_of 0 (m - 0) z ≡ inside_bounds (problem_of j) (take (problem_of j).ropes z) ++ drop (problem_of j).ropes z
held_inside j m z ys q h e =
    let n = (problem_of j).ropes in
    let P : ℕ → Type 0 = λ k. ys ≡ clamped (problem_of j) (take k z) in
    let f = subst P (sub-zero m ∙ q) e in
    let b : eqb (length (take n z)) n ≡ true = eq-eqb _ _ (length-take-le n z h) in
    let g : ys ≡ inside_bounds (problem_of j) (take n z) = rw b at f in
    ap (λ (k : ℕ). ys ++ drop k z) (sub-zero m ∙ q) ∙ ap (λ w. w ++ drop n z) g

pub returns : goal.returns
returns c = held_inside c.args.job.now c.ropes.result c.args.pulls c.clamp-held.new.z c.ropes.ensures (omega (arith, c.args.job.now.terms.some.1)) c.clamp-held.ensures.after
