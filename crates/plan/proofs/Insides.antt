-- Points that are held lie inside their bounds.
use Rattle.std.proofs.Common.{◌≡◌, ℕ, Bool, true, false, cond, List, length, ℤ, Some, None, Option, refl, arith}
use Rattle.std.proofs.lemmas.Bool.{and_parts}
use Rattle.duality.specs.Lists.{places}
use Rattle.duality.specs.Problem.{Problem}
use Rattle.duality.specs.Tests.{all, between, many_within}
use Rattle.duality.proofs.Tests.{all_from, all_at, between_from}
use Rattle.job.proofs.Reading.{wider}
use Rattle.arrayvec.specs.ArrayVec.{ArrayVec}
use Rattle.evaluate.specs.Findings.{keeps_bound, keeps_row, feasible}
use Rattle.terms.proofs.Reading.{many_long}
use Rattle.calls.specs.Steps.{standing}
use Rattle.calls.specs.Refusing.{point_refusal}
use Rattle.calls.proofs.Refused.{point_refuses}
use Rattle.plan.specs.Inside.{passes, held_within}
use Rattle.plan.specs.View.{held}

-- each number of a list of so many lies between its bounds
abbrev pub lies_in : Problem → List ℤ → ℕ → Bool
lies_in P z n = all (λ k. between (P.l k) (P.u k) (places z k)) n

pub point_inside : (P : Problem) (z : List ℤ) → point_refusal P z ≡ None → lies_in P z (length z) ≡ true
point_inside P z e =
    let law = (point_refuses P z).lawful e in
    let n : length z ≡ P.ropes = law.long in
    let f = law.feasible in
    all_from (λ k. between (P.l k) (P.u k) (places z k)) (length z)
    (λ k l. between_from (P.l k) (P.u k) (places z k) (f.bound_l k (omega arith)) (f.bound_u k (omega arith)))

feasible_lies : (P : Problem) (z : List ℤ) → length z ≡ P.ropes → feasible P (places z) ≡ true → lies_in P z (length z) ≡ true
feasible_lies P z n f =
    let p = and_parts (all (keeps_row P (places z)) P.rows) (all (keeps_bound P (places z)) P.ropes) f in
    all_from (keeps_bound P (places z)) (length z) (λ k l. all_at (keeps_bound P (places z)) P.ropes k p.1 (omega arith))

standing_passes : (test : List ℤ → Bool) (o : Option (List ℤ)) (z : List ℤ) → Some z ≡ standing test o → test z ≡ true
standing_passes test None z e = cc
standing_passes test (Some x) z e = go (test x) refl e
  where
    go : (b : Bool) → test x ≡ b → Some z ≡ cond b (Some x) None → test z ≡ true
    go true t h = cc
    go false t h = cc

pub stands_inside : (P : Problem) (old new : Option (ArrayVec ℤ)) → passes (many_within P.ropes 32768) new ≡ true
    → held new ≡ standing (λ z. feasible P (places z)) (held old) → passes (λ z. lies_in P z (length z)) new ≡ true
stands_inside P old None m e = refl
stands_inside P old (Some v) m e = feasible_lies P v.items (many_long P.ropes 32768 v.items m) (standing_passes (λ z. feasible P (places z)) (held old) v.items e)

pub held_wider : (n : ℕ) (o : Option (ArrayVec ℤ)) → held_within n 32768 o ≡ true → held_within n 1073741824 o ≡ true
held_wider n None h = refl
held_wider n (Some v) h = wider n v.items h
