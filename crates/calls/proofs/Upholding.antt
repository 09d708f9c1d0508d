-- What a plan upholds: it holds only what is lawful, and nothing that was offered since the last amendment is better.
use Rattle.std.proofs.Common.{◌≡◌, true, List, ℤ, ◌≤ℤ◌, is_some, Some, None, Option, refl}
use Rattle.duality.specs.Lists.{places}
use Rattle.duality.specs.Problem.{Problem, cost}
use Rattle.calls.specs.States.{State, Pair, problem, floor_of}
use Rattle.calls.specs.Lawful.{LawfulPoint, LawfulPair, LawfulProof}
use Rattle.calls.specs.Offers.{Offer, point, pair, proof}
use Rattle.calls.specs.Honesty.{Held}

-- a point is held that costs at most v
abbrev pub HoldsAtMost : Problem → Option (List ℤ) → ℤ → Type 0
HoldsAtMost P None v = ⊥
HoldsAtMost P (Some x) v = cost P (places x) ≤ℤ v

-- of the point that is held, if any, and of the points that were offered
pub record Points (P : Problem) (Since : List ℤ → Type 0) (held : Option (List ℤ)) : Type 0 where
  pub lawful : Held held (LawfulPoint P)
  pub none_lost : (x : List ℤ) → Since x → LawfulPoint P x → HoldsAtMost P held (cost P (places x))

pub record Proofs (P : Problem) (Since : List ℤ → Type 0) (held : Option (List ℤ)) : Type 0 where
  pub lawful : Held held (LawfulProof P)
  pub none_lost : (y : List ℤ) → Since y → LawfulProof P y → is_some held ≡ true

abbrev pub Pairs : Problem → (Pair → Type 0) → Pair → Type 0
Pairs P Since held = (q : Pair) → Since q → LawfulPair P q → floor_of P q ≤ℤ floor_of P held

pub record Upheld (Since : Offer → Type 0) (t : State) : Type 0 where
  pub points : Points (problem t) (λ x. Since (point x)) t.point
  pub proofs : Proofs (problem t) (λ y. Since (proof y)) t.proof
  pub pairs : Pairs (problem t) (λ q. Since (pair q)) t.pair

-- of fewer offers
pub points_for : {P : Problem} {S R : List ℤ → Type 0} {h : Option (List ℤ)} → ((x : List ℤ) → R x → S x) → Points P S h → Points P R h
points_for f u = record { lawful = u.lawful; none_lost = λ x r. u.none_lost x (f x r) }

pub proofs_for : {P : Problem} {S R : List ℤ → Type 0} {h : Option (List ℤ)} → ((y : List ℤ) → R y → S y) → Proofs P S h → Proofs P R h
proofs_for f u = record { lawful = u.lawful; none_lost = λ y r. u.none_lost y (f y r) }

pub upheld_for : {S R : Offer → Type 0} {t : State} → ((o : Offer) → R o → S o) → Upheld S t → Upheld R t
upheld_for f u =
    record {
      points = points_for (λ x. f (point x)) u.points;
      proofs = proofs_for (λ y. f (proof y)) u.proofs;
      pairs = λ q r. u.pairs q (f (pair q) r);
    }

-- two states with the same tables and numbers
pub record SameTerms (t s : State) : Type 0 where
  pub g : t.g ≡ s.g
  pub a : t.a ≡ s.a
  pub numbers : t.numbers ≡ s.numbers

pub same_self : (t : State) → SameTerms t t
same_self t = record { g = refl; a = refl; numbers = refl }
