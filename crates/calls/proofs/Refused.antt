-- An offer is refused exactly if it is not lawful.
use Rattle.std.proofs.Common.{◌≡◌, ℕ, ◌+◌, ◌<◌, Bool, cond, eqb, List, length, ℤ, Some, None, refl, ap}
use Rattle.std.proofs.lemmas.Bool.{cond-true, leb-true, le-leb, eqb-true, eq-eqb}
use Rattle.std.specs.Option.{option_or, option_map}
use Rattle.duality.specs.Lists.{places}
use Rattle.duality.specs.Sums.{Vector}
use Rattle.duality.specs.Problem.{Problem, Feasible}
use Rattle.duality.specs.Tests.{first_not, within}
use Rattle.duality.proofs.Tests.{first_none}
use Rattle.opening.specs.declared.refusal.Refusal.TheVariants.{OfferLength, OfferLimit, Bound, Row, NoProof}
use Rattle.opening.specs.Fits.{Near}
use Rattle.opening.proofs.Firsts.{or_none, or_both, mapped_none, cond_none}
use Rattle.terms.proofs.Firsts.{first_all}
use Rattle.evaluate.specs.Findings.{keeps_bound, keeps_row}
use Rattle.evaluate.specs.Floors.{refuting}
use Rattle.evaluate.proofs.Firsts.{row_decides, bound_decides}
use Rattle.evaluate.proofs.Flooring.{refutes_decides}
use Rattle.calls.specs.States.{Pair}
use Rattle.calls.specs.Refusing.{length_refusal, limit_refusal, bound_refusal, row_refusal, point_refusal, pair_refusal, proof_refusal}
use Rattle.calls.specs.Lawful.{LawfulPoint, LawfulPair, LawfulProof, RefusesUnlawful}

-- lengths and limits

pub length_out : (n len : ℕ) → length_refusal n len ≡ None → len ≡ n
length_out n len e = eqb-true len n (cond_none (eqb len n) (OfferLength n) e)

length_in : (n len : ℕ) → len ≡ n → length_refusal n len ≡ None
length_in n len h = cond-true (eqb len n) None (Some (OfferLength n)) (eq-eqb len n h)

module _ (limit first : ℕ) (xs : List ℤ) where
  abbrev near_test : ℕ → Bool
  near_test k = within limit (places xs k)

  pub near_out : limit_refusal limit first xs ≡ None → Near limit xs
  near_out e k l = leb-true _ _ (first_none near_test (length xs) k (mapped_none (λ k. OfferLimit (first + k)) (first_not near_test (length xs)) e) l)

  near_in : Near limit xs → limit_refusal limit first xs ≡ None
  near_in h = ap (option_map (λ k. OfferLimit (first + k))) (first_all near_test (length xs) (λ k l. le-leb _ _ (h k l)))

-- rows and bounds

module _ (P : Problem) (z : Vector) where
  feasible_out : bound_refusal P z ≡ None → row_refusal P z ≡ None → Feasible P z
  feasible_out eb er =
      let bounds = λ (j : ℕ) (l : j < P.ropes). (bound_decides P z j).0 (first_none (keeps_bound P z) P.ropes j (mapped_none Bound (first_not (keeps_bound P z) P.ropes) eb) l) in
      let rows = λ (i : ℕ) (l : i < P.rows). (row_decides P z i).0 (first_none (keeps_row P z) P.rows i (mapped_none Row (first_not (keeps_row P z) P.rows) er) l) in
      record {
        row_lo = λ i l. (rows i l).0;
        row_hi = λ i l. (rows i l).1;
        bound_l = λ j l. (bounds j l).0;
        bound_u = λ j l. (bounds j l).1;
      }

  bounds_in : Feasible P z → bound_refusal P z ≡ None
  bounds_in f = ap (option_map Bound) (first_all (keeps_bound P z) P.ropes (λ j l. (bound_decides P z j).1 (f.bound_l j l, f.bound_u j l)))

  rows_in : Feasible P z → row_refusal P z ≡ None
  rows_in f = ap (option_map Row) (first_all (keeps_row P z) P.rows (λ i l. (row_decides P z i).1 (f.row_lo i l, f.row_hi i l)))

-- the three kinds of offers

pub point_refuses : (P : Problem) (z : List ℤ) → RefusesUnlawful (LawfulPoint P z) (point_refusal P z)
point_refuses P z = record { lawful = out; only = into }
  where
    out : point_refusal P z ≡ None → LawfulPoint P z
    out e =
        let a = or_none (length_refusal P.ropes (length z)) (option_or (limit_refusal 32768 0 z) (option_or (bound_refusal P (places z)) (row_refusal P (places z)))) e in
        let b = or_none (limit_refusal 32768 0 z) (option_or (bound_refusal P (places z)) (row_refusal P (places z))) a.1 in
        let c = or_none (bound_refusal P (places z)) (row_refusal P (places z)) b.1 in
        record {
          long = length_out P.ropes (length z) a.0;
          near = near_out 32768 0 z b.0;
          feasible = feasible_out P (places z) c.0 c.1;
        }

    into : LawfulPoint P z → point_refusal P z ≡ None
    into h =
        or_both (length_refusal P.ropes (length z)) _ (length_in P.ropes (length z) h.long)
        (or_both (limit_refusal 32768 0 z) _ (near_in 32768 0 z h.near)
        (or_both (bound_refusal P (places z)) _ (bounds_in P (places z) h.feasible) (rows_in P (places z) h.feasible)))

pub pair_refuses : (P : Problem) (q : Pair) → RefusesUnlawful (LawfulPair P q) (pair_refusal P q)
pair_refuses P q = record { lawful = out; only = into }
  where
    out : pair_refusal P q ≡ None → LawfulPair P q
    out e =
        let a = or_none (length_refusal P.ropes (length q.point))
        (option_or (length_refusal P.rows (length q.multipliers)) (option_or (limit_refusal 32768 0 q.point) (limit_refusal 16777216 P.ropes q.multipliers))) e in
        let b = or_none (length_refusal P.rows (length q.multipliers)) (option_or (limit_refusal 32768 0 q.point) (limit_refusal 16777216 P.ropes q.multipliers)) a.1 in
        let c = or_none (limit_refusal 32768 0 q.point) (limit_refusal 16777216 P.ropes q.multipliers) b.1 in
        record {
          long = length_out P.ropes (length q.point) a.0;
          near = near_out 32768 0 q.point c.0;
          rows = length_out P.rows (length q.multipliers) b.0;
          light = near_out 16777216 P.ropes q.multipliers c.1;
        }

    into : LawfulPair P q → pair_refusal P q ≡ None
    into h =
        or_both (length_refusal P.ropes (length q.point)) _ (length_in P.ropes (length q.point) h.long)
        (or_both (length_refusal P.rows (length q.multipliers)) _ (length_in P.rows (length q.multipliers) h.rows)
        (or_both (limit_refusal 32768 0 q.point) _ (near_in 32768 0 q.point h.near) (near_in 16777216 P.ropes q.multipliers h.light)))

pub proof_refuses : (P : Problem) (y : List ℤ) → RefusesUnlawful (LawfulProof P y) (proof_refusal P y)
proof_refuses P y = record { lawful = out; only = into }
  where
    out : proof_refusal P y ≡ None → LawfulProof P y
    out e =
        let a = or_none (length_refusal P.rows (length y)) (option_or (limit_refusal 16777216 0 y) (cond (refuting P (places y)) None (Some NoProof))) e in
        let b = or_none (limit_refusal 16777216 0 y) (cond (refuting P (places y)) None (Some NoProof)) a.1 in
        record {
          rows = length_out P.rows (length y) a.0;
          light = near_out 16777216 0 y b.0;
          refutes = (refutes_decides P (places y) (refuting P (places y)) refl).0 (cond_none (refuting P (places y)) NoProof b.1);
        }

    into : LawfulProof P y → proof_refusal P y ≡ None
    into h =
        or_both (length_refusal P.rows (length y)) _ (length_in P.rows (length y) h.rows)
        (or_both (limit_refusal 16777216 0 y) _ (near_in 16777216 0 y h.light)
        (cond-true (refuting P (places y)) None (Some NoProof) ((refutes_decides P (places y) (refuting P (places y)) refl).1 h.refutes)))
