-- What a plan upholds after any history of calls from a fair start.
use Rattle.std.proofs.Common.{◌≡◌, ℕ, ◌⊎◌, List, [], ◌∷◌, ℤ, Some, None, Option, sym, refl, ap, ◌∙◌, subst, inl, inr, ⊎_elim}
use Rattle.duality.specs.Convex.{Symmetric, Convex}
use Rattle.duality.specs.Lists.{places}
use Rattle.duality.specs.Problem.{Problem}
use Rattle.duality.specs.Sums.{Matrix}
use Rattle.duality.proofs.Refutation.{none_sound}
use Rattle.table.specs.Grid.{matrix_of}
use Rattle.opening.specs.declared.refusal.Refusal.{Refusal}
use Rattle.terms.specs.Numbers.{Numbers}
use Rattle.calls.specs.declared.answers.Amendment.{Amendment}
use Rattle.calls.specs.States.{State, problem}
use Rattle.calls.specs.Refusing.{amend_refusal}
use Rattle.calls.specs.Steps.{amendment, if_allowed}
use Rattle.calls.specs.Lawful.{LawfulPoint, LawfulProof}
use Rattle.calls.specs.Offers.{took_all, Among}
use Rattle.calls.specs.Histories.{Call, offer, amend, solve, show, offers, after, reached, amended_by, in_force, Leaves, Offered}
use Rattle.calls.specs.Honesty.{Held, problem_after, HoldsLawfully}
use Rattle.calls.specs.Fairness.{Fair}
use Rattle.calls.proofs.Upholding.{Upheld, upheld_for}
use Rattle.calls.proofs.Taking.{offers_upheld, offers_same}
use Rattle.calls.proofs.Amending.{ropes_stay, amend_upheld, amend_same}

-- a call that does nothing but offer
pub record OnlyOffers (m : Call) : Type 0 where
  pub state : (t : State) → after t m ≡ took_all t (offers t m)
  pub numbers : (x : Numbers) → amended_by x m ≡ x

-- every other call is an amendment
offers_or_amends : (m : Call) → OnlyOffers m ⊎ ((n : Amendment) × (m ≡ amend n))
offers_or_amends (offer o) = inl (record { state = λ t. refl; numbers = λ x. refl })
offers_or_amends (amend n) = inr (n, refl)
offers_or_amends (solve steps moves) = inl (record { state = λ t. refl; numbers = λ x. refl })
offers_or_amends (show out) = inl (record { state = λ t. refl; numbers = λ x. refl })

-- the tables are those of the start, the numbers those in force, and every offer since the last amendment counts
pub record Keeps (s : State) (past : List Call) (t : State) : Type 0 where
  pub g : t.g ≡ s.g
  pub a : t.a ≡ s.a
  pub numbers : t.numbers ≡ in_force s.numbers past
  pub upheld : Upheld (Offered s past) t

module _ (s : State) (past : List Call) (k : Keeps s past (reached s past)) where
  abbrev t : State
  t = reached s past

  offering_keeps : (m : Call) → OnlyOffers m → Keeps s (m ∷ past) (after t m)
  offering_keeps m only =
      let same = offers_same t (offers t m) in
      subst (Keeps s (m ∷ past)) (sym (only.state t))
      (record {
        g = same.g ∙ k.g;
        a = same.a ∙ k.a;
        numbers = same.numbers ∙ k.numbers ∙ sym (only.numbers (in_force s.numbers past));
        upheld =
            upheld_for
            (λ o since.
            ⊎_elim
            (λ (new : Among o (offers t m)). inl new)
            (λ (old : Leaves (in_force s.numbers past) m × Offered s past o). inr old.1)
            since)
            (offers_upheld (Offered s past) t (offers t m) k.upheld);
      })

  amend_keeps : (n : Amendment) → Keeps s (amend n ∷ past) (after t (amend n))
  amend_keeps n =
      let same = amend_same t n in
      record {
        g = same.g ∙ k.g;
        a = same.a ∙ k.a;
        numbers = same.numbers ∙ ap (λ (x : Numbers). if_allowed (amend_refusal x n) (amendment x n) x) k.numbers;
        upheld =
            upheld_for
            (λ o since.
            ⊎_elim
            (λ (none : ⊥). absurd none)
            (λ (old : (amend_refusal (in_force s.numbers past) n ≡ None → ⊥) × Offered s past o).
            (λ e. old.0 (ap (λ (x : Numbers). amend_refusal x n) (sym k.numbers) ∙ e), old.1))
            since)
            (amend_upheld t n (Offered s past) k.upheld);
      }

  call_keeps : (m : Call) → Keeps s (m ∷ past) (after t m)
  call_keeps m =
      ⊎_elim
      (λ (only : OnlyOffers m). offering_keeps m only)
      (λ (amends : (n : Amendment) × (m ≡ amend n)). subst (λ c. Keeps s (c ∷ past) (after t c)) (sym amends.1) (amend_keeps amends.0))
      (offers_or_amends m)

pub keeps : (s : State) (past : List Call) → Fair s → Keeps s past (reached s past)
keeps s [] fair =
    record {
      g = refl;
      a = refl;
      numbers = refl;
      upheld =
          record {
            points = record { lawful = fair.point_lawful; none_lost = λ x b. absurd b };
            proofs = record { lawful = fair.proof_lawful; none_lost = λ y b. absurd b };
            pairs = λ q b. absurd b;
          };
    }
keeps s (m ∷ past) fair = call_keeps s past (keeps s past fair) m

pub problem_is : {s : State} {past : List Call} {t : State} → Keeps s past t → problem t ≡ problem_after s past
problem_is {s} {past} {t} k = cc

-- the cost stays convex, since neither G nor the number of ropes changes

if_allowed_ropes : (r : Option Refusal) (x y : Numbers) → x.ropes ≡ y.ropes → (if_allowed r x y).ropes ≡ y.ropes
if_allowed_ropes None x y e = e
if_allowed_ropes (Some f) x y e = refl

call_ropes : (x : Numbers) (m : Call) → (amended_by x m).ropes ≡ x.ropes
call_ropes x m =
    ⊎_elim
    (λ (only : OnlyOffers m). ap (λ (y : Numbers). y.ropes) (only.numbers x))
    (λ (amends : (n : Amendment) × (m ≡ amend n)).
    subst (λ c. (amended_by x c).ropes ≡ x.ropes) (sym amends.1)
    (if_allowed_ropes (amend_refusal x amends.0) (amendment x amends.0) x (ropes_stay x amends.0)))
    (offers_or_amends m)

ropes_in_force : (x : Numbers) (past : List Call) → (in_force x past).ropes ≡ x.ropes
ropes_in_force x [] = refl
ropes_in_force x (m ∷ past) = call_ropes (in_force x past) m ∙ ropes_in_force x past

pub reached_fair : (s : State) (past : List Call) → Fair s → Fair (reached s past)
reached_fair s past fair =
    record {
      point_lawful = k.upheld.points.lawful;
      proof_lawful = k.upheld.proofs.lawful;
      symmetric = moved Symmetric fair.symmetric;
      convex = moved Convex fair.convex;
    }
  where
    t : State
    t = reached s past

    k : Keeps s past t
    k = keeps s past fair

    ropes : t.numbers.ropes ≡ s.numbers.ropes
    ropes = ap (λ (x : Numbers). x.ropes) k.numbers ∙ ropes_in_force s.numbers past

    moved : (F : ℕ → Matrix → Type 0) → F (problem s).ropes (problem s).G → F (problem t).ropes (problem t).G
    moved F h = subst (λ n. F n (problem t).G) (sym ropes) (subst (λ g. F (problem s).ropes (matrix_of g)) (sym k.g) h)

-- what is held

not_both : (P : Problem) (z y : List ℤ) → LawfulPoint P z → LawfulProof P y → ⊥
not_both P z y point proof = none_sound P (places y) proof.refutes (places z) point.feasible

pub always_lawful : (s : State) (past : List Call) → Fair s → HoldsLawfully (reached s past)
always_lawful s past fair =
    let t = reached s past in
    let u = (keeps s past fair).upheld in
    record {
      point_lawful = u.points.lawful;
      proof_lawful = u.proofs.lawful;
      not_both = λ z y ez ey.
          not_both (problem t) z y
          (subst (λ h. Held h (LawfulPoint (problem t))) ez u.points.lawful)
          (subst (λ h. Held h (LawfulProof (problem t))) ey u.proofs.lawful);
    }
