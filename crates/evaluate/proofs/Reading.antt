-- What is read of points, and what is answered of them.
use Rattle.std.proofs.Common.{◌≡◌, ℕ, ◌≤◌, Bool, true, false, List, ℤ, Some, None, sym, ap, ◌∙◌, arith}
use Rattle.std.proofs.lemmas.Bool.{cond-true}
use Rattle.evaluate.specs.Sums.{Summable}
use Rattle.duality.specs.Tests.{many_within, answer}
use Rattle.terms.specs.Numbers.{ropes_of}
use Rattle.terms.specs.declared.numbers.Terms.{Terms}
use Rattle.terms.proofs.Reading.{many_long, many_small}

pub answered : {X : Type 0} (b : Bool) (v w : X) → b ≡ true → w ≡ v → Some w ≡ answer b v
answered b v w e f = ap Some f ∙ sym (cond-true b (Some v) None e)

pub given_value : {X : Type 0} (b : Bool) (v w : X) → Some w ≡ answer b v → w ≡ v
given_value true v w e = cc
given_value false v w e = let z : ◌≡◌ {A = ℕ} 0 1 = cc in absurd (omega arith)

pub summable : (t : Terms) (limit : ℕ) (z : List ℤ) → limit ≤ 1073741824 → many_within (ropes_of t) limit z ≡ true → Summable z
summable t limit z le p =
    record {
      few = omega (arith, many_long (ropes_of t) limit z p, t.some.1);
      near = λ k. omega (arith, many_small (ropes_of t) limit z p k);
    }
