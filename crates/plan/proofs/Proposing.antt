-- The exchange and the walk, one after the other, make a solve.
use Rattle.std.proofs.Common.{◌≡◌, ℕ, true, eqb, List, length, ℤ, unwrap_or, sym, ap, ◌∙◌, subst, arith}
use lib.Signed.{≤ℤ_refl}
use Rattle.std.proofs.lemmas.Bool.{and_from, eq-eqb}
use Rattle.duality.specs.Lists.{places}
use Rattle.duality.specs.Tests.{all, between}
use Rattle.duality.proofs.Tests.{all_from, between_from, ordered_at}
use Rattle.table.specs.Grid.{Grid}
use Rattle.terms.specs.Numbers.{Numbers}
use Rattle.job.specs.Bounds.{is_in_bounds}
use Rattle.job.specs.Numbers.{problem, problem_of}
use Rattle.job.specs.declared.numbers.Job.{Job}
use Rattle.reading.specs.Plain.{plain}
use Rattle.job.specs.Rows.{judged}
use Rattle.exchange.specs.Laws.{LawfulRun, AloneRun}
use Rattle.exchange.specs.Runs.{exchanged, report_of}
use Rattle.exchange.specs.declared.members.Report.{Report as Exchanged}
use Rattle.walk.specs.Laws.{Lawful, Alone}
use Rattle.walk.specs.Walks.{Ended, ended, walk_from}
use Rattle.walk.specs.declared.ends.Walked.{Walked}
use Rattle.calls.specs.declared.answers.Report.{Report}
use Rattle.calls.specs.States.{State}
use Rattle.calls.specs.Offers.{took_all}
use Rattle.calls.specs.Solving.{written, found_offers, exchange_of, last_found, start_of, walk_of, if_met, walk_offers, solve_offers, report, LawfulSolve}
use Rattle.calls.proofs.Upholding.{SameTerms}
use Rattle.plan.specs.Solves.{ReadOf}
use Rattle.plan.proofs.Solving.{took_append}

-- the lower bounds lie inside the bounds
pub lower_inside : (j : Job) → is_in_bounds (problem_of j) j.terms.l.items ≡ true
lower_inside j =
    let P = problem_of j in
    let l = j.terms.l.items in
    let u = j.terms.u.items in
    and_from (eqb (length l) P.ropes) (all (λ k. between (P.l k) (P.u k) (places l k)) P.ropes) (eq-eqb _ _ j.terms.lefts.0)
    (all_from (λ k. between (P.l k) (P.u k) (places l k)) P.ropes
    (λ k b. between_from (places l k) (places u k) (places l k) (≤ℤ_refl (places l k)) (ordered_at l u k j.terms.wide (omega (arith, b, j.terms.lefts.0)))))

-- the same job is read of the same tables and numbers

plain_same : (t s : State) → SameTerms t s → plain t.g t.a t.numbers ≡ plain s.g s.a s.numbers
plain_same t s h =
    ap (λ (g : Grid). plain g t.a t.numbers) h.g ∙ ap (λ (a : Grid). plain s.g a t.numbers) h.a ∙ ap (λ (x : Numbers). plain s.g s.a x) h.numbers

pub written_same : (t s : State) → SameTerms t s → written t ≡ written s
written_same t s h = ap problem (plain_same t s h)

pub read_same : (t s : State) (j : Job) → SameTerms t s → ReadOf s j → ReadOf t j
read_same t s j h r = r ∙ sym (plain_same t s h)

-- s before, s₁ after the exchange, s₂ at the end; the list goes from z₀ to z₃
module _ (s s₁ s₂ : State) (z₀ z₁ z₂ z₃ : List ℤ) (b m : ℕ) (x : Exchanged) (w : Walked) (rx : x ≡ report_of (exchanged (written s) b))
    (e₁ : s₁ ≡ took_all s (found_offers s.numbers (exchanged (written s) b).offers)) (l₀ : z₀ ≡ s.numbers.l)
    (l₁ : z₁ ≡ last_found s.numbers z₀ (exchanged (written s) b).offers) (l₂ : z₂ ≡ unwrap_or s₁.point z₁) (l₃ : ended z₃ w ≡ walk_from (written s) m z₂)
    (e₂ : s₂ ≡ took_all s₁ (if_met (judged (written s) (places z₃)) z₃)) where
  start_is : z₂ ≡ start_of s b
  unfolding exchange_of
  start_is =
      l₂ ∙ ap (λ (t : State). unwrap_or t.point z₁) e₁
      ∙ ap (λ (z : List ℤ). unwrap_or (took_all s (found_offers s.numbers (exchanged (written s) b).offers)).point z)
      (l₁ ∙ ap (λ (z : List ℤ). last_found s.numbers z (exchanged (written s) b).offers) l₀)

  walk_is : ended z₃ w ≡ walk_of s b m
  unfolding walk_of
  walk_is = l₃ ∙ ap (walk_from (written s) m) start_is

  after_exchange : s₁ ≡ took_all s (found_offers s.numbers (exchange_of s b).offers)
  unfolding exchange_of
  after_exchange = e₁

  pub proposed_after : s₂ ≡ took_all s (solve_offers s b m)
  proposed_after =
      e₂ ∙ ap (λ (y : Ended). took_all s₁ (if_met (judged (written s) (places y.point)) y.point)) walk_is
      ∙ ap (λ (t : State). took_all t (walk_offers s b m)) after_exchange
      ∙ sym (took_append s (found_offers s.numbers (exchange_of s b).offers) (walk_offers s b m))

  abbrev pub told : Report
  told = record { steps = x.steps; exchange = x.end; moves = w.moves; walk = w.end; smallest = x.smallest }

  pub proposed_report : told ≡ report s b m
  unfolding exchange_of
  proposed_report =
      let a = ap (λ (y : Exchanged). y.steps) rx in
      let e = ap (λ (y : Exchanged). y.end) rx in
      let f = ap (λ (y : Exchanged). y.smallest) rx in
      let c = ap (λ (y : Ended). y.moves) walk_is in
      let d = ap (λ (y : Ended). y.end) walk_is in
      cc

  pub proposed_law : LawfulRun (written s) b (exchanged (written s) b).offers x → AloneRun (written s) b (exchanged (written s) b).offers x
      → Lawful (written s) m z₂ z₃ w → Alone (written s) m z₂ z₃ w → LawfulSolve s b m told
  unfolding exchange_of
  proposed_law lr ar lw aw =
      let end : z₃ ≡ (walk_of s b m).point = ap (λ (y : Ended). y.point) walk_is in
      record {
        exchanged = lr;
        exchanged_alone = ar;
        walked = subst (λ (z : List ℤ). Lawful (written s) m (start_of s b) z w) end (subst (λ (z : List ℤ). Lawful (written s) m z z₃ w) start_is lw);
        walked_alone = subst (λ (z : List ℤ). Alone (written s) m (start_of s b) z w) end (subst (λ (z : List ℤ). Alone (written s) m z z₃ w) start_is aw);
      }
