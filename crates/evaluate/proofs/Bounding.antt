-- A bound and a row as the code tests them, for the plan's problem with any other table.
use Rattle.std.proofs.Common.{◌≡◌, ℕ, Bool, Option, List, length, min, ℤ, sym, ap, ◌∙◌, arith}
use Rattle.terms.specs.Numbers.{ropes_of}
use Rattle.duality.specs.Lists.{places}
use Rattle.duality.specs.Sums.{Matrix, row}
use Rattle.duality.specs.Tests.{between, first_not}
use Rattle.terms.specs.declared.numbers.Terms.{Terms}

-- number j of z lies within its bounds
abbrev pub lies : Terms → List ℤ → ℕ → Bool
lies t z j = between (places t.l.items j) (places t.u.items j) (places z j)

-- the first number outside, of a point with a number for each rope
pub first_lies : (t : Terms) (z lows highs : List ℤ) (o : Option ℕ) → length z ≡ ropes_of t → lows ≡ t.l.items → highs ≡ t.u.items →
    o ≡ first_not (λ k. between (places lows k) (places highs k) (places z k)) (min (length lows) (min (length highs) (length z))) → o ≡ first_not (lies t z) (ropes_of t)
first_lies t z lows highs o long el eh e =
    let n : min (length t.l.items) (min (length t.u.items) (length z)) ≡ ropes_of t = omega (arith, t.lefts.0, t.rights.0) in
    rw (el, eh, n) at e

-- row i's sum lies within its limits
abbrev pub meets : Matrix → Terms → List ℤ → ℕ → Bool
meets M t z i = between (places t.lo.items i) (places t.hi.items i) (row (ropes_of t) M (places z) i)

pub meets_is : (M : Matrix) (t : Terms) (z : List ℤ) (i : ℕ) (low high s : ℤ) (b : Bool) → length z ≡ ropes_of t → low ≡ places t.lo.items i →
    high ≡ places t.hi.items i → s ≡ row (length z) M (places z) i → b ≡ between low high s → meets M t z i ≡ b
meets_is M t z i low high s b long el eh es e =
    let d : s ≡ row (ropes_of t) M (places z) i = es ∙ ap (λ (n : ℕ). row n M (places z) i) long in
    let q : between low high s ≡ meets M t z i = cc in
    sym (e ∙ q)
