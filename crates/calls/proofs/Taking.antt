-- Offers that are judged in turn: what is held stays lawful, and is no worse than any of them.
use Rattle.std.proofs.Common.{◌≡◌, ℕ, Bool, true, false, not, eqb, ◌⊎◌, List, [], ◌∷◌, ℤ, ◌≤ℤ◌, is_some, Some, None, Ok, Err, Option, Result, refl, ap, ◌∙◌, subst, inl, inr, ⊎_elim, arith}
use lib.Signed.{≤ℤ_refl, lt_z}
use Rattle.std.proofs.lemmas.Int.{ints}
use Rattle.std.proofs.lemmas.Bool.{not-false, both_ways, eqb-false}
use Rattle.duality.specs.Lists.{places}
use Rattle.duality.specs.Problem.{Problem, cost}
use Rattle.opening.specs.declared.refusal.Refusal.{Refusal}
use Rattle.calls.specs.declared.answers.Verdict.{Verdict}
use Rattle.calls.specs.declared.answers.Verdict.TheVariants.{Taken, Kept}
use Rattle.calls.specs.States.{State, Pair, problem, floor_of, with_point, with_pair, with_proof}
use Rattle.calls.specs.Refusing.{point_refusal, pair_refusal, proof_refusal}
use Rattle.calls.specs.Steps.{unless, verdict, if_taken, undercuts, point_answer, pair_answer, proof_answer}
use Rattle.calls.specs.Lawful.{LawfulPoint, LawfulPair, LawfulProof, RefusesUnlawful}
use Rattle.calls.specs.Offers.{Offer, point, pair, proof, took, took_all, Among}
use Rattle.calls.proofs.Refused.{point_refuses, pair_refuses, proof_refuses}
use Rattle.calls.proofs.Upholding.{HoldsAtMost, Points, Proofs, Pairs, points_for, proofs_for, Upheld, upheld_for, SameTerms, same_self}

-- orders

lower_le : (a b c : ℤ) → lt_z a b ≡ true → b ≤ℤ c → a ≤ℤ c
lower_le a b c e h = grind (arith, ints)

le_above : (a b c : ℤ) → lt_z b c ≡ true → a ≤ℤ b → a ≤ℤ c
le_above a b c e h = grind (arith, ints)

not_lower : (a b : ℤ) → lt_z a b ≡ false → b ≤ℤ a
not_lower a b e = grind (arith, ints)

undercut : (P : Problem) (z : List ℤ) (h : Option (List ℤ)) (v : ℤ) → undercuts P z h ≡ true → HoldsAtMost P h v → cost P (places z) ≤ℤ v
undercut P z None v e b = absurd b
undercut P z (Some x) v e b = lower_le (cost P (places z)) (cost P (places x)) v e b

not_undercut : (P : Problem) (z : List ℤ) (h : Option (List ℤ)) → undercuts P z h ≡ false → HoldsAtMost P h (cost P (places z))
not_undercut P z None e = both_ways true e refl
not_undercut P z (Some x) e = not_lower (cost P (places z)) (cost P (places x)) e

-- a lawful offer was not refused
not_refused : {X L : Type 0} (r : Option Refusal) (e : Refusal) → r ≡ Some e → RefusesUnlawful L r → L → X
not_refused r e d h l =
    let n : r ≡ None = h.only l in
    let z : ◌≡◌ {A = ℕ} 0 1 = cc in
    absurd (omega arith)

-- what is held once an offer was judged
abbrev held_after : {X : Type 0} → Result Verdict Refusal → X → X → X
held_after (Ok Taken) new old = new
held_after (Ok Kept) new old = old
held_after (Err e) new old = old

-- the offers so far, and one more
abbrev With : Offer → (Offer → Type 0) → Offer → Type 0
With o Since p = (o ≡ p) ⊎ Since p

module _ (P : Problem) (Since : Offer → Type 0) where
  points_with : (z : List ℤ) (h : Option (List ℤ)) → Points P (λ x. Since (point x)) h →
      (r : Option Refusal) (b : Bool) → point_refusal P z ≡ r → undercuts P z h ≡ b →
      Points P (λ x. With (point z) Since (point x)) (held_after (unless r (verdict b)) (Some z) h)
  points_with z h u (Some e) b er eb =
      record {
        lawful = u.lawful;
        none_lost = λ x since law.
            ⊎_elim
            (λ (q : point z ≡ point x). let d : x ≡ z = cc in not_refused (point_refusal P z) e er (point_refuses P z) (subst (LawfulPoint P) d law))
            (λ (old : Since (point x)). u.none_lost x old law)
            since;
      }
  points_with z h u None true er eb =
      record {
        lawful = (point_refuses P z).lawful er;
        none_lost = λ x since law.
            ⊎_elim
            (λ (q : point z ≡ point x). let d : z ≡ x = cc in subst (λ y. cost P (places z) ≤ℤ cost P (places y)) d (≤ℤ_refl (cost P (places z))))
            (λ (old : Since (point x)). undercut P z h (cost P (places x)) eb (u.none_lost x old law))
            since;
      }
  points_with z h u None false er eb =
      record {
        lawful = u.lawful;
        none_lost = λ x since law.
            ⊎_elim
            (λ (q : point z ≡ point x). let d : z ≡ x = cc in subst (λ y. HoldsAtMost P h (cost P (places y))) d (not_undercut P z h eb))
            (λ (old : Since (point x)). u.none_lost x old law)
            since;
      }

  proofs_with : (z : List ℤ) (h : Option (List ℤ)) → Proofs P (λ y. Since (proof y)) h →
      (r : Option Refusal) (b : Bool) → proof_refusal P z ≡ r → not (is_some h) ≡ b →
      Proofs P (λ y. With (proof z) Since (proof y)) (held_after (unless r (verdict b)) (Some z) h)
  proofs_with z h u (Some e) b er eb =
      record {
        lawful = u.lawful;
        none_lost = λ y since law.
            ⊎_elim
            (λ (q : proof z ≡ proof y). let d : y ≡ z = cc in not_refused (proof_refusal P z) e er (proof_refuses P z) (subst (LawfulProof P) d law))
            (λ (old : Since (proof y)). u.none_lost y old law)
            since;
      }
  proofs_with z h u None true er eb = record { lawful = (proof_refuses P z).lawful er; none_lost = λ y since law. refl }
  proofs_with z h u None false er eb = record { lawful = u.lawful; none_lost = λ y since law. not-false (is_some h) eb }

  pairs_with : (p h : Pair) → Pairs P (λ q. Since (pair q)) h →
      (r : Option Refusal) (b : Bool) → pair_refusal P p ≡ r → lt_z (floor_of P h) (floor_of P p) ≡ b →
      Pairs P (λ q. With (pair p) Since (pair q)) (held_after (unless r (verdict b)) p h)
  pairs_with p h u (Some e) b er eb q since law =
      ⊎_elim
      (λ (o : pair p ≡ pair q). let d : q ≡ p = cc in not_refused (pair_refusal P p) e er (pair_refuses P p) (subst (LawfulPair P) d law))
      (λ (old : Since (pair q)). u q old law)
      since
  pairs_with p h u None true er eb q since law =
      ⊎_elim
      (λ (o : pair p ≡ pair q). let d : p ≡ q = cc in subst (λ k. floor_of P k ≤ℤ floor_of P p) d (≤ℤ_refl (floor_of P p)))
      (λ (old : Since (pair q)). le_above (floor_of P q) (floor_of P h) (floor_of P p) eb (u q old law))
      since
  pairs_with p h u None false er eb q since law =
      ⊎_elim
      (λ (o : pair p ≡ pair q). let d : p ≡ q = cc in subst (λ k. floor_of P k ≤ℤ floor_of P h) d (not_lower (floor_of P h) (floor_of P p) eb))
      (λ (old : Since (pair q)). u q old law)
      since

abbrev kind : Offer → ℕ
kind (point z) = 0
kind (pair q) = 1
kind (proof y) = 2

-- an offer of another kind was made before
before : {S : Type 0} (o p : Offer) → eqb (kind o) (kind p) ≡ false → (o ≡ p) ⊎ S → S
before {S} o p other since = ⊎_elim (λ (e : o ≡ p). absurd (eqb-false (kind o) (kind p) other (ap kind e))) (λ (s : S). s) since

module _ (t : State) where
  point_after : (z : List ℤ) (r : Result Verdict Refusal) → with_point t (held_after r (Some z) t.point) ≡ if_taken r (with_point t (Some z)) t
  point_after z (Ok Taken) = refl
  point_after z (Ok Kept) = refl
  point_after z (Err e) = refl

  proof_after : (y : List ℤ) (r : Result Verdict Refusal) → with_proof t (held_after r (Some y) t.proof) ≡ if_taken r (with_proof t (Some y)) t
  proof_after y (Ok Taken) = refl
  proof_after y (Ok Kept) = refl
  proof_after y (Err e) = refl

  pair_after : (q : Pair) (r : Result Verdict Refusal) → with_pair t (held_after r q t.pair) ≡ if_taken r (with_pair t q) t
  pair_after q (Ok Taken) = refl
  pair_after q (Ok Kept) = refl
  pair_after q (Err e) = refl

module _ (Since : Offer → Type 0) where
  pub offer_upheld : (t : State) (o : Offer) → Upheld Since t → Upheld (λ p. (o ≡ p) ⊎ Since p) (took t o)
  offer_upheld t (point z) u =
      subst (Upheld (With (point z) Since)) (point_after t z (point_answer t z))
      (record {
        points = points_with (problem t) Since z t.point u.points (point_refusal (problem t) z) (undercuts (problem t) z t.point) refl refl;
        proofs = proofs_for (λ y. before (point z) (proof y) refl) u.proofs;
        pairs = λ q since. u.pairs q (before (point z) (pair q) refl since);
      })
  offer_upheld t (pair p) u =
      subst (Upheld (With (pair p) Since)) (pair_after t p (pair_answer t p))
      (record {
        points = points_for (λ x. before (pair p) (point x) refl) u.points;
        proofs = proofs_for (λ y. before (pair p) (proof y) refl) u.proofs;
        pairs = pairs_with (problem t) Since p t.pair u.pairs (pair_refusal (problem t) p) (lt_z (floor_of (problem t) t.pair) (floor_of (problem t) p)) refl refl;
      })
  offer_upheld t (proof y) u =
      subst (Upheld (With (proof y) Since)) (proof_after t y (proof_answer t y))
      (record {
        points = points_for (λ x. before (proof y) (point x) refl) u.points;
        proofs = proofs_with (problem t) Since y t.proof u.proofs (proof_refusal (problem t) y) (not (is_some t.proof)) refl refl;
        pairs = λ q since. u.pairs q (before (proof y) (pair q) refl since);
      })

pub offers_upheld : (Since : Offer → Type 0) (t : State) (os : List Offer) → Upheld Since t → Upheld (λ p. Among p os ⊎ Since p) (took_all t os)
offers_upheld Since t [] u = upheld_for (λ p since. ⊎_elim (λ (b : ⊥). absurd b) (λ (s : Since p). s) since) u
offers_upheld Since t (o ∷ os) u =
    upheld_for
    (λ p since.
    ⊎_elim
    (λ (first : (o ≡ p) ⊎ Among p os). ⊎_elim (λ (e : o ≡ p). inr (inl e)) (λ (later : Among p os). inl later) first)
    (λ (old : Since p). inr (inr old))
    since)
    (offers_upheld (λ p. (o ≡ p) ⊎ Since p) (took t o) os (offer_upheld Since t o u))

-- an offer changes neither tables nor numbers

if_taken_same : (r : Result Verdict Refusal) (taken t : State) → SameTerms taken t → SameTerms (if_taken r taken t) t
if_taken_same (Ok Taken) taken t h = h
if_taken_same (Ok Kept) taken t h = same_self t
if_taken_same (Err e) taken t h = same_self t

offer_same : (t : State) (o : Offer) → SameTerms (took t o) t
offer_same t (point z) = if_taken_same (point_answer t z) (with_point t (Some z)) t (record { g = refl; a = refl; numbers = refl })
offer_same t (pair q) = if_taken_same (pair_answer t q) (with_pair t q) t (record { g = refl; a = refl; numbers = refl })
offer_same t (proof y) = if_taken_same (proof_answer t y) (with_proof t (Some y)) t (record { g = refl; a = refl; numbers = refl })

pub offers_same : (t : State) (os : List Offer) → SameTerms (took_all t os) t
offers_same t [] = same_self t
offers_same t (o ∷ os) =
    let later = offers_same (took t o) os in
    let first = offer_same t o in
    record { g = later.g ∙ first.g; a = later.a ∙ first.a; numbers = later.numbers ∙ first.numbers }
