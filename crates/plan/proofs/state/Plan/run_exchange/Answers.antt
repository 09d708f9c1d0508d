use Rattle.std.proofs.Common.{◌+◌, ◌-◌, sym, ap, ◌∙◌, subst, arith}
use Rattle.job.specs.Numbers.{Numbers as JobNumbers, problem_of}
use Rattle.job.specs.declared.numbers.Job.{Job}
use Rattle.exchange.specs.Steps.{step_at, solved_at, OffersInside}
use Rattle.exchange.specs.Runs.{over, offers_of, run_from, exchanged}
use Rattle.exchange.proofs.Running.{turn_on, turn_over, report_is}
use Rattle.terms.specs.Numbers.{Numbers}
use Rattle.calls.specs.States.{State}
use Rattle.calls.specs.Solving.{found_offers}
use Rattle.calls.proofs.Taking.{offers_same}
use Rattle.plan.specs.Solves.{ReadOf}
use Rattle.plan.specs.View.{view}
use Rattle.plan.proofs.Proposing.{read_same}
use Rattle.plan.proofs.Solving.{exchange_starts, step_inside, more_numbers, more_taken, more_last, more_steps, more_ending, more_smallest}
use Rattle.plan.proofs.state.Plan.run_exchange.Goals as goal

pub loop-k-init : goal.loop-k-init
loop-k-init g c =
    let e = c.new-exchange.result in
    let h = c.new-exchange.ensures in (
      exchange_starts (problem_of c.args.job.now) c.args.budget (view g.G.Table.meant g.A.Table.meant c.args.self.now) c.args.at.now
          e.members.items e.smallest h.members h.smallest c.requires.inside,
      c.requires.stands,
      c.requires.same,
      h.job,
    )

pub loop-k-preserved : goal.loop-k-preserved
loop-k-preserved g c =
    let P = problem_of c.args.job.now in
    let B = c.args.budget in
    let k = c.loop-k.k in
    let e = c.loop-k.exchange in
    let ms = e.members.items in
    let f = e.smallest in
    let v = c.step-step.new.self in
    let h = c.step-step.ensures in
    let i = c.loop-k.invariant.0 in
    let ej = c.loop-k.invariant.3 in
    let st = c.step-step.result in
    let s₀ : State = view g.G.Table.meant g.A.Table.meant c.args.self.now in
    let s : State = view g.G.Table.meant g.A.Table.meant c.loop-k.self in
    let s' : State = view g.G.Table.meant g.A.Table.meant c.offer_step.new.self in
    let value = h.value ∙ ap (λ (j : Job). step_at (problem_of j) ms f) ej in
    let smallest = h.smallest ∙ ap (λ (j : Job). (solved_at (problem_of j) ms f).0) ej in
    let law = subst (λ (j : Job). OffersInside (problem_of j) st) ej h.inside in
    let z₀ = c.args.at.now in
    let z = c.loop-k.at in
    let z' = c.offer_step.new.at in
    let es = c.offer_step.ensures.after in
    let ez = c.offer_step.ensures.last in
    let er = turn_on P B k ms f c.loop-k-test.true st value v.members.items v.smallest h.members smallest c.in_default.ensures in
    let rest = run_from (B - (k + 1)) P v.members.items v.smallest in (
      record {
        numbers = more_numbers P B k s₀ s s' z₀ z z' ms f st i es ez;
        taken = more_taken P B k s₀ s s' z₀ z z' ms f st i es ez rest er;
        last = more_last P B k s₀ s s' z₀ z z' ms f st i es ez rest er;
        steps = omega (arith, more_steps P B k s₀ s s' z₀ z z' ms f st i es ez rest er);
        ending = more_ending P B k s₀ s s' z₀ z z' ms f st i es ez rest er;
        smallest = more_smallest P B k s₀ s s' z₀ z z' ms f st i es ez rest er;
        inside = step_inside P s.numbers st z z' (ap (λ (x : Numbers). x.ropes) (sym (ap (λ (x : JobNumbers). x.terms) c.loop-k.invariant.2))) law i.inside ez;
      },
      c.offer_step.ensures.stands,
      subst (λ (t : State). ReadOf t c.args.job.now) (sym es) (read_same _ s c.args.job.now (offers_same s (found_offers s.numbers (offers_of st))) c.loop-k.invariant.2),
      h.job ∙ ej,
    )

pub returns-in-Some : goal.returns-in-Some
returns-in-Some g c =
    let P = problem_of c.args.job.now in
    let B = c.args.budget in
    let k = c.loop-k.k in
    let e = c.loop-k.exchange in
    let ms = e.members.items in
    let f = e.smallest in
    let v = c.step-step.new.self in
    let h = c.step-step.ensures in
    let i = c.loop-k.invariant.0 in
    let ej = c.loop-k.invariant.3 in
    let st = c.step-step.result in
    let s₀ : State = view g.G.Table.meant g.A.Table.meant c.args.self.now in
    let s : State = view g.G.Table.meant g.A.Table.meant c.loop-k.self in
    let s' : State = view g.G.Table.meant g.A.Table.meant c.offer_step.new.self in
    let value = h.value ∙ ap (λ (j : Job). step_at (problem_of j) ms f) ej in
    let smallest = h.smallest ∙ ap (λ (j : Job). (solved_at (problem_of j) ms f).0) ej in
    let law = subst (λ (j : Job). OffersInside (problem_of j) st) ej h.inside in
    let z₀ = c.args.at.now in
    let z = c.loop-k.at in
    let z' = c.offer_step.new.at in
    let es = c.offer_step.ensures.after in
    let ez = c.offer_step.ensures.last in
    let er = turn_over P B k ms f c.loop-k-test.true st value v.smallest c.in-Some.end smallest c.in-Some.ensures in
    let rest = over c.in-Some.end v.smallest in
    record {
      report =
          c.report.ensures
          ∙ report_is (exchanged P B) _ _ _ (omega (arith, more_steps P B k s₀ s s' z₀ z z' ms f st i es ez rest er)) (more_ending P B k s₀ s s' z₀ z z' ms f st i es ez rest er)
          (more_smallest P B k s₀ s s' z₀ z z' ms f st i es ez rest er);
      after = more_taken P B k s₀ s s' z₀ z z' ms f st i es ez rest er;
      stands = c.offer_step.ensures.stands;
      last = more_last P B k s₀ s s' z₀ z z' ms f st i es ez rest er;
      inside = step_inside P s.numbers st z z' (ap (λ (x : Numbers). x.ropes) (sym (ap (λ (x : JobNumbers). x.terms) c.loop-k.invariant.2))) law i.inside ez;
    }
