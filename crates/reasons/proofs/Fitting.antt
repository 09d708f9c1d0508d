-- What follows of an offer that is not refused: its numbers fit.
use Rattle.std.proofs.Common.{◌≡◌, ℕ, true, eqb, List, length, ℤ, None, ◌∙◌}
use Rattle.std.proofs.lemmas.Bool.{and_from, eq-eqb, le-leb}
use Rattle.duality.specs.Lists.{places}
use Rattle.duality.specs.Problem.{Problem}
use Rattle.duality.specs.Tests.{within, all_within, many_within}
use Rattle.duality.proofs.Tests.{all_from}
use Rattle.opening.specs.Fits.{Near}
use Rattle.calls.specs.States.{Pair}
use Rattle.calls.specs.Refusing.{length_refusal, limit_refusal, point_refusal, pair_refusal, proof_refusal}
use Rattle.calls.proofs.Refused.{length_out, near_out, point_refuses, pair_refuses, proof_refuses}

pub near_all : (limit : ℕ) (xs : List ℤ) → Near limit xs → all_within limit xs ≡ true
near_all limit xs h = all_from (λ k. within limit (places xs k)) (length xs) (λ k l. le-leb _ _ (h k l))

pub near_many : (n limit : ℕ) (xs : List ℤ) → length xs ≡ n → Near limit xs → many_within n limit xs ≡ true
near_many n limit xs e h = and_from (eqb (length xs) n) (all_within limit xs) (eq-eqb _ _ e) (near_all limit xs h)

-- where the length was asked for first

pub long_of : (m n : ℕ) (xs : List ℤ) → m ≡ n → length_refusal m (length xs) ≡ None → length xs ≡ n
long_of m n xs e len = length_out m (length xs) len ∙ e

pub tested_many : (m n limit first : ℕ) (xs : List ℤ) → m ≡ n → length_refusal m (length xs) ≡ None → limit_refusal limit first xs ≡ None → many_within n limit xs ≡ true
tested_many m n limit first xs e len lim = near_many n limit xs (long_of m n xs e len) (near_out limit first xs lim)

-- the three kinds of offers

pub point_many : (P : Problem) (z : List ℤ) → point_refusal P z ≡ None → many_within P.ropes 32768 z ≡ true
point_many P z e =
    let law = (point_refuses P z).lawful e in
    near_many P.ropes 32768 z law.long law.near

pub pair_many : (P : Problem) (q : Pair) → pair_refusal P q ≡ None → (many_within P.ropes 32768 q.point ≡ true) × (many_within P.rows 16777216 q.multipliers ≡ true)
pair_many P q e =
    let law = (pair_refuses P q).lawful e in
    (near_many P.ropes 32768 q.point law.long law.near, near_many P.rows 16777216 q.multipliers law.rows law.light)

pub proof_many : (P : Problem) (y : List ℤ) → proof_refusal P y ≡ None → many_within P.rows 16777216 y ≡ true
proof_many P y e =
    let law = (proof_refuses P y).lawful e in
    near_many P.rows 16777216 y law.rows law.light
