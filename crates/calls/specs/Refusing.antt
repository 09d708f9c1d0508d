-- Why an offer or an amendment is refused: the first reason, in this order.
use Rattle.std.specs.Prelude.{ℕ, ◌+◌, Bool, cond, ◌&&◌, List, length, ℤ, Some, None, Option, ◌==◌, int_le, nat_lt}
use Rattle.std.specs.Option.{option_or, option_map}
use Rattle.duality.specs.Lists.{places}
use Rattle.duality.specs.Sums.{Vector}
use Rattle.duality.specs.Problem.{Problem}
use Rattle.duality.specs.Tests.{first_not, within}
use Rattle.opening.specs.declared.refusal.Refusal.{Refusal}
use Rattle.opening.specs.declared.refusal.Refusal.TheVariants.{OfferLength, OfferLimit, Bound, Row, NoProof, NoSuch}
use Rattle.opening.specs.declared.refusal.Refusal.TheVariants as refusal
use Rattle.terms.specs.Numbers.{Numbers}
use Rattle.evaluate.specs.Findings.{keeps_bound, keeps_row}
use Rattle.evaluate.specs.Floors.{refuting}
use Rattle.calls.specs.declared.answers.Amendment.{Amendment}
use Rattle.calls.specs.declared.answers.Amendment.TheVariants.{Rope, Cost}
use Rattle.calls.specs.declared.answers.Amendment.TheVariants as amendment
use Rattle.calls.specs.States.{Pair}

-- another length than needed
abbrev pub length_refusal : ℕ → ℕ → Option Refusal
length_refusal needed len = cond (len == needed) None (Some (OfferLength needed))

-- the first number beyond ±limit, counted on from `first`
abbrev pub limit_refusal : ℕ → ℕ → List ℤ → Option Refusal
limit_refusal limit first xs = option_map (λ k. OfferLimit (first + k)) (first_not (λ k. within limit (places xs k)) (length xs))

abbrev pub bound_refusal : Problem → Vector → Option Refusal
bound_refusal P z = option_map Bound (first_not (keeps_bound P z) P.ropes)

abbrev pub row_refusal : Problem → Vector → Option Refusal
row_refusal P z = option_map Row (first_not (keeps_row P z) P.rows)

abbrev pub point_refusal : Problem → List ℤ → Option Refusal
point_refusal P z =
    option_or (length_refusal P.ropes (length z))
    (option_or (limit_refusal 32768 0 z)
    (option_or (bound_refusal P (places z))
    (row_refusal P (places z))))

-- the point before the multipliers, which count on from it
abbrev pub pair_refusal : Problem → Pair → Option Refusal
pair_refusal P q =
    option_or (length_refusal P.ropes (length q.point))
    (option_or (length_refusal P.rows (length q.multipliers))
    (option_or (limit_refusal 32768 0 q.point)
    (limit_refusal 16777216 P.ropes q.multipliers)))

abbrev pub proof_refusal : Problem → List ℤ → Option Refusal
proof_refusal P y =
    option_or (length_refusal P.rows (length y))
    (option_or (limit_refusal 16777216 0 y)
    (cond (refuting P (places y)) None (Some NoProof)))

-- no such row or rope, or numbers that are not allowed there
abbrev pub unless_allowed : ℕ → ℕ → Bool → Option Refusal
unless_allowed index count ok = cond (nat_lt index count) (cond ok None (Some (refusal.Amendment index))) (Some (NoSuch index))

-- both within ±limit, and the lower not above the upper
abbrev pub ordered : ℕ → ℤ → ℤ → Bool
ordered limit low high = within limit low && within limit high && int_le low high

abbrev pub amend_refusal : Numbers → Amendment → Option Refusal
amend_refusal x (amendment.Row i lo hi) = unless_allowed i x.rows (ordered 536870912 lo hi)
amend_refusal x (Rope j l u) = unless_allowed j x.ropes (ordered 32768 l u)
amend_refusal x (Cost j c) = unless_allowed j x.ropes (within 268435456 c)
