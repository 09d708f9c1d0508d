-- The first place that fails a test, as a search ends, and what it says of feasibility.
use Rattle.std.proofs.Common.{◌≡◌, ℕ, zero, suc, ◌<◌, Bool, true, false, ℤ, ◌≤ℤ◌, is_none, is_ok, Some, None, Ok, Err, Decides, Option, Result, sym, refl, ap, ◌∙◌, subst, arith}
use Rattle.std.proofs.lemmas.Bool.{both_ways, cond-true, cond-false, and_parts, and_from}
use Rattle.duality.specs.Sums.{Vector}
use Rattle.duality.specs.Problem.{Problem, Feasible, row_at}
use Rattle.duality.specs.Tests.{all, or_here, first_not, between}
use Rattle.duality.proofs.Tests.{first_at, first_none, all_at, all_from, between_parts, between_from}
use Rattle.terms.proofs.Firsts.{none_is_all}
use Rattle.evaluate.specs.Findings.{BoundKept, RowKept, keeps_bound, keeps_row, finding, found, Finds, feasible}
use Rattle.terms.specs.declared.unmet.Unmet.{Unmet}
use Rattle.terms.specs.declared.unmet.Unmet.TheVariants.{At, NoPoint}

pub between_decides : (low high x : ℤ) → Decides (between low high x) ((low ≤ℤ x) × (x ≤ℤ high))
between_decides low high x = (between_parts low high x, λ h. between_from low high x h.0 h.1)

-- i is the first place below n that fails
abbrev pub First : (ℕ → Bool) → ℕ → ℕ → Type 0
First p i n = (i < n) × (p i ≡ false) × ((k : ℕ) → k < i → p k ≡ true)

pub first_some : (p : ℕ → Bool) (n i : ℕ) → first_not p n ≡ Some i → First p i n
first_some p zero i e = let z : ◌≡◌ {A = ℕ} 0 1 = cc in absurd (omega arith)
first_some p (suc n) i e = last (first_some p n i) (first_not p n) (p n) refl refl e
  where
    last : (first_not p n ≡ Some i → First p i n) → (o : Option ℕ) (b : Bool) → first_not p n ≡ o → p n ≡ b → or_here o b n ≡ Some i → First p i (suc n)
    last below (Some k) b eo eb d = let h = below (eo ∙ d) in (omega (arith, h.0), h.1, h.2)
    last below None true eo eb d = let z : ◌≡◌ {A = ℕ} 0 1 = cc in absurd (omega arith)
    last below None false eo eb d = let q : n ≡ i = cc in (omega arith, ap p (sym q) ∙ eb, λ k l. first_none p n k eo (omega arith))

-- Law: a finding that names a place names the first one that is not kept.
pub finds : (b : Bool) (p : ℕ → Bool) (Keeps : ℕ → Type 0) (decides : (k : ℕ) → Decides (p k) (Keeps k)) (n : ℕ) (r : Result (Unit {0}) Unmet) → r ≡ found b p n →
    Finds Keeps n r
finds b p Keeps decides n r e = subst (Finds Keeps n) (sym e) (out b)
  where
    named : (o : Option ℕ) → first_not p n ≡ o → Finds Keeps n (finding o)
    named None d = λ k l. (decides k).0 (first_none p n k d l)
    named (Some i) d = let h = first_some p n i d in (h.0, λ x. both_ways (p i) h.1 ((decides i).1 x), λ k m. (decides k).0 (h.2 k m))

    out : (b : Bool) → Finds Keeps n (found b p n)
    out true = named (first_not p n) refl
    out false = tt

pub found_broken : (b : Bool) (p : ℕ → Bool) (i n : ℕ) → b ≡ true → first_not p i ≡ None → p i ≡ false → i < n → Err (At i) ≡ found b p n
found_broken b p i n t e f l = ap finding (sym (first_at p i n e f l)) ∙ sym (cond-true b _ (Err NoPoint) t)

pub found_kept : (b : Bool) (p : ℕ → Bool) (n : ℕ) → b ≡ true → first_not p n ≡ None → Ok tt ≡ found b p n
found_kept b p n t e = ap finding (sym e) ∙ sym (cond-true b _ (Err NoPoint) t)

pub found_is : (b : Bool) (p : ℕ → Bool) (n : ℕ) (o : Option ℕ) → b ≡ true → o ≡ first_not p n → finding o ≡ found b p n
found_is b p n o t e = ap finding e ∙ sym (cond-true b _ (Err NoPoint) t)

pub found_no_point : (b : Bool) (p : ℕ → Bool) (n : ℕ) → b ≡ false → Err NoPoint ≡ found b p n
found_no_point b p n t = sym (cond-false b (finding (first_not p n)) (Err NoPoint) t)

-- what a finding says of the list
pub at_point : (b : Bool) (p : ℕ → Bool) (i n : ℕ) → Err (At i) ≡ found b p n → (b ≡ true) × (all p n ≡ false)
at_point true p i n e = (refl, sym (none_is_all p n) ∙ some (first_not p n) e)
  where
    some : (o : Option ℕ) → Err (At i) ≡ finding o → is_none o ≡ false
    some None d = let z : ◌≡◌ {A = ℕ} 0 1 = cc in absurd (omega arith)
    some (Some k) d = refl
at_point false p i n e = let z : ◌≡◌ {A = ℕ} 0 1 = cc in absurd (omega arith)

pub kept_point : (b : Bool) (p : ℕ → Bool) (n : ℕ) (u : Unit {0}) → Ok u ≡ found b p n → (b ≡ true) × (all p n ≡ true)
kept_point true p n u e = (refl, sym (none_is_all p n) ∙ none (first_not p n) e)
  where
    none : (o : Option ℕ) → Ok u ≡ finding o → is_none o ≡ true
    none None d = refl
    none (Some k) d = let z : ◌≡◌ {A = ℕ} 0 1 = cc in absurd (omega arith)
kept_point false p n u e = let z : ◌≡◌ {A = ℕ} 0 1 = cc in absurd (omega arith)

pub no_point : (b : Bool) (p : ℕ → Bool) (n : ℕ) → Err NoPoint ≡ found b p n → b ≡ false
no_point true p n e = absurd (never (first_not p n) e)
  where
    never : (o : Option ℕ) → Err NoPoint ≡ finding o → ⊥
    never None e = let z : ◌≡◌ {A = ℕ} 0 1 = cc in omega arith
    never (Some i) e = let z : ◌≡◌ {A = ℕ} 0 1 = cc in omega arith
no_point false p n e = refl

pub ok_all : (b : Bool) (p : ℕ → Bool) (n : ℕ) → b ≡ true → is_ok (found b p n) ≡ all p n
ok_all true p n e = ok (first_not p n) ∙ none_is_all p n
  where
    ok : (o : Option ℕ) → is_ok (finding o) ≡ is_none o
    ok None = refl
    ok (Some i) = refl
ok_all false p n e = let z : ◌≡◌ {A = ℕ} 0 1 = cc in absurd (omega arith)

module _ (P : Problem) (z : Vector) where
  pub row_decides : (i : ℕ) → Decides (keeps_row P z i) (RowKept P z i)
  row_decides i = between_decides (P.lo i) (P.hi i) (row_at P z i)

  pub bound_decides : (j : ℕ) → Decides (keeps_bound P z j) (BoundKept P z j)
  bound_decides j = between_decides (P.l j) (P.u j) (z j)

  -- Law: the test is duality's feasibility.
  pub feasible_decides : Decides (feasible P z) (Feasible P z)
  feasible_decides = (out, into)
    where
      out : feasible P z ≡ true → Feasible P z
      out e =
          let both = and_parts (all (keeps_row P z) P.rows) (all (keeps_bound P z) P.ropes) e in
          let rows = λ (i : ℕ) (l : i < P.rows). (row_decides i).0 (all_at (keeps_row P z) P.rows i both.0 l) in
          let bounds = λ (j : ℕ) (l : j < P.ropes). (bound_decides j).0 (all_at (keeps_bound P z) P.ropes j both.1 l) in
          record {
            row_lo = λ i l. (rows i l).0;
            row_hi = λ i l. (rows i l).1;
            bound_l = λ j l. (bounds j l).0;
            bound_u = λ j l. (bounds j l).1;
          }

      into : Feasible P z → feasible P z ≡ true
      into f =
          and_from (all (keeps_row P z) P.rows) (all (keeps_bound P z) P.ropes)
          (all_from (keeps_row P z) P.rows (λ i l. (row_decides i).1 (f.row_lo i l, f.row_hi i l)))
          (all_from (keeps_bound P z) P.ropes (λ j l. (bound_decides j).1 (f.bound_l j l, f.bound_u j l)))

  pub decided : (b : Bool) → b ≡ feasible P z → Decides b (Feasible P z)
  decided b e = (λ t. feasible_decides.0 (sym e ∙ t), λ h. e ∙ feasible_decides.1 h)
