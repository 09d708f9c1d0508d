-- How long the numbers of a point are.
use Rattle.std.proofs.Common.{◌≡◌, ℕ, suc, ◌+◌, ◌*◌, ◌<◌, ◌≤◌, List, [], ◌∷◌, map, length, ℤ, pos, negsuc, nat_abs, None, ap, ⊎_elim, arith}
use Rattle.std.specs.Fmt.{signed_decimal}
use Rattle.std.proofs.lemmas.Fmt.{length_signed_le}
use Rattle.std.proofs.lemmas.List.{length-append, get_or_past}
use Rattle.std.proofs.lemmas.Bool.{cases_lt, leb-true}
use Rattle.duality.specs.Lists.{places}
use Rattle.duality.specs.Tests.{within}
use Rattle.duality.proofs.Tests.{first_none}
use Rattle.lines.specs.Answers.{first_far}
use Rattle.lines.specs.Texts.{rest}

near_from : (z : List ℤ) → first_far z ≡ None → (k : ℕ) → nat_abs (places z k) ≤ 32768
near_from z e k =
    ⊎_elim
    (λ (lt : k < length z). leb-true _ _ (first_none (λ i. within 32768 (places z i)) (length z) k e lt))
    (λ (le : length z ≤ k). omega (arith, ap nat_abs (get_or_past z k (pos 0) le)))
    (cases_lt k (length z))

signed_short : (x : ℤ) → nat_abs x ≤ 32768 → length (signed_decimal x) ≤ 6
signed_short (pos n) h = length_signed_le 5 (pos n) (omega arith) (omega arith)
signed_short (negsuc n) h = length_signed_le 5 (negsuc n) (omega arith) (omega arith)

rest_short : (z : List ℤ) → ((k : ℕ) → nat_abs (places z k) ≤ 32768) → length (rest (map signed_decimal z)) ≤ 7 * length z + 1
rest_short [] near = omega arith
rest_short (x ∷ z) near =
    omega (arith, rest_short z (λ k. near (suc k)), length-append (signed_decimal x) (rest (map signed_decimal z)), signed_short x (near 0))

pub point_short : (z : List ℤ) → length z ≤ 16 → first_far z ≡ None → length (rest (map signed_decimal z)) ≤ 113
point_short z few near = omega (arith, rest_short z (near_from z near))
