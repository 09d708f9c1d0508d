use Rattle.std.proofs.Common.{◌≡◌, ap, ◌∙◌, sym, subst}
use Rattle.duality.specs.Lists.{places}
use Rattle.duality.specs.Problem.{Problem}
use Rattle.job.specs.Bounds.{is_in_bounds}
use Rattle.job.specs.Numbers.{Numbers as JobNumbers, problem, problem_of}
use Rattle.job.specs.Rows.{judged}
use Rattle.job.proofs.Reading.{wider}
use Rattle.walk.proofs.Following.{a_point}
use Rattle.exchange.specs.Laws.{LawfulRun, AloneRun}
use Rattle.exchange.specs.Runs.{exchanged, report_of}
use Rattle.exchange.proofs.Lawful.{lawful_run, alone_run}
use Rattle.walk.specs.Laws.{Lawful, Alone}
use Rattle.walk.specs.Walks.{ended, walk_from}
use Rattle.calls.specs.States.{State}
use Rattle.calls.specs.Offers.{took_all}
use Rattle.calls.specs.Solving.{written, found_offers, last_found, if_met}
use Rattle.calls.proofs.Taking.{offers_same}
use Rattle.plan.specs.Solves.{ReadOf}
use Rattle.plan.specs.View.{view}
use Rattle.plan.proofs.Proposing.{lower_inside, written_same, read_same, proposed_after, proposed_report, proposed_law}
use Rattle.plan.proofs.state.Plan.propose.Goals as goal

pub run_exchange-exchanged-requires-clause-inside : goal.run_exchange-exchanged-requires-clause-inside
run_exchange-exchanged-requires-clause-inside g c =
    let j = c.read_job-job.result in
    ap (is_in_bounds (problem_of j)) (c.as_mut_slice-at.ensures.value ∙ c.copied-point.ensures ∙ c.deref.ensures.0) ∙ lower_inside j

pub start_from-requires : goal.start_from-requires
start_from-requires g c =
    let s : State = view g.G.Table.meant g.A.Table.meant c.args.self.now in
    let P = problem_of c.read_job-job.result in
    let z₁ = c.run_exchange-exchanged.new.at in
    let h = c.run_exchange-exchanged.ensures in
    let w = ap written h.after ∙ written_same _ s (offers_same s (found_offers s.numbers (exchanged P c.args.budgets.steps).offers)) ∙ sym (ap problem c.read_job-job.ensures.value) in
    ap (λ (Q : Problem). is_in_bounds Q z₁) w ∙ h.inside

pub walk_down-walked-requires : goal.walk_down-walked-requires
walk_down-walked-requires g c =
    let s : State = view g.G.Table.meant g.A.Table.meant c.args.self.now in
    let P = problem_of c.read_job-job.result in
    let z₂ = c.start_from.new.at in
    let h = c.run_exchange-exchanged.ensures in
    let w = ap written h.after ∙ written_same _ s (offers_same s (found_offers s.numbers (exchanged P c.args.budgets.steps).offers)) ∙ sym (ap problem c.read_job-job.ensures.value) in
    sym (ap (λ (Q : Problem). is_in_bounds Q z₂) w) ∙ c.start_from.ensures.inside

pub offer_end-requires : goal.offer_end-requires
offer_end-requires g c =
    let s : State = view g.G.Table.meant g.A.Table.meant c.args.self.now in
    let j = c.read_job-job.result in
    let z₃ = c.walk_down-walked.new.at in
    let h = c.run_exchange-exchanged.ensures in
    let offers = found_offers s.numbers (exchanged (problem_of j) c.args.budgets.steps).offers in
    record {
      same = subst (λ (t : State). ReadOf t j) (sym h.after) (read_same _ s j (offers_same s offers) c.read_job-job.ensures.value);
      stands = h.stands;
      near = wider _ z₃ (a_point j z₃ c.walk_down-walked.ensures.law.in_bounds);
    }

pub returns : goal.returns
returns g c =
    let s : State = view g.G.Table.meant g.A.Table.meant c.args.self.now in
    let s₁ : State = view g.G.Table.meant g.A.Table.meant c.run_exchange-exchanged.new.self in
    let s₂ : State = view g.G.Table.meant g.A.Table.meant c.offer_end.new.self in
    let j = c.read_job-job.result in
    let b = c.args.budgets.steps in
    let m = c.args.budgets.moves in
    let z₀ = c.as_mut_slice-at.result.now in
    let z₁ = c.run_exchange-exchanged.new.at in
    let z₂ = c.start_from.new.at in
    let z₃ = c.walk_down-walked.new.at in
    let x = c.run_exchange-exchanged.result in
    let w = c.walk_down-walked.result in
    let same = ap problem c.read_job-job.ensures.value in
    let h = c.run_exchange-exchanged.ensures in
    let v = c.walk_down-walked.ensures in
    let rx = subst (λ (P : Problem). x ≡ report_of (exchanged P b)) same h.report in
    let e₁ = subst (λ (P : Problem). s₁ ≡ took_all s (found_offers s.numbers (exchanged P b).offers)) same h.after in
    let l₁ = subst (λ (P : Problem). z₁ ≡ last_found s.numbers z₀ (exchanged P b).offers) same h.last in
    let l₃ = subst (λ (P : Problem). ended z₃ w ≡ walk_from P m z₂) same v.value in
    let e₂ = subst (λ (P : Problem). s₂ ≡ took_all s₁ (if_met (judged P (places z₃)) z₃)) same c.offer_end.ensures in
    let lr = subst (λ (P : Problem). LawfulRun P b (exchanged P b).offers x) same (lawful_run j b x h.report) in
    let ar = subst (λ (P : Problem). AloneRun P b (exchanged P b).offers x) same (alone_run j b x h.report) in
    let lw = subst (λ (P : Problem). Lawful P m z₂ z₃ w) same v.law in
    let aw = subst (λ (P : Problem). Alone P m z₂ z₃ w) same v.alone in
    let l₀ = c.as_mut_slice-at.ensures.value ∙ c.copied-point.ensures ∙ c.deref.ensures.0 ∙ ap (λ (y : JobNumbers). y.terms.l) c.read_job-job.ensures.value in
    record {
      report = proposed_report s s₁ s₂ z₀ z₁ z₂ z₃ b m x w rx e₁ l₀ l₁ c.start_from.ensures.start l₃ e₂;
      after = proposed_after s s₁ s₂ z₀ z₁ z₂ z₃ b m x w rx e₁ l₀ l₁ c.start_from.ensures.start l₃ e₂;
      law = proposed_law s s₁ s₂ z₀ z₁ z₂ z₃ b m x w rx e₁ l₀ l₁ c.start_from.ensures.start l₃ e₂ lr ar lw aw;
    }
