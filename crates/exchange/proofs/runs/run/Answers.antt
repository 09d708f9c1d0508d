use Rattle.std.proofs.Common.{sym, ap, ◌∙◌, zero-add, arith}
use Rattle.job.specs.Numbers.{problem_of}
use Rattle.job.specs.declared.numbers.Job.{Job}
use Rattle.exchange.specs.Runs.{Run, exchanged}
use Rattle.exchange.specs.Steps.{step_at, solved_at}
use Rattle.exchange.proofs.Running.{turn_on, turn_over, run_starts, run_spent, report_is}
use Rattle.exchange.proofs.Lawful.{lawful_run, alone_run}
use Rattle.exchange.proofs.runs.run.Goals as goal

pub loop-k-init : goal.loop-k-init
loop-k-init c =
    let h = c.new-exchange.ensures in
    let e = c.new-exchange.result in
    let r = run_starts (problem_of c.args.job.now) c.args.budget e.members.items e.smallest h.members h.smallest in
    record { job = h.job; steps = zero-add _ ∙ ap (λ (x : Run). x.steps) r; ending = ap (λ (x : Run). x.ending) r; smallest = ap (λ (x : Run). x.smallest) r }

pub loop-k-preserved : goal.loop-k-preserved
loop-k-preserved c =
    let P = problem_of c.args.job.now in
    let e = c.loop-k.exchange in
    let ms = e.members.items in
    let B = c.args.budget in
    let i = c.loop-k.invariant in
    let v = c.step-step.new.self in
    let h = c.step-step.ensures in
    let t = turn_on P B c.loop-k.k ms e.smallest c.loop-k-test.true c.step-step.result (h.value ∙ ap (λ (j : Job). step_at (problem_of j) ms e.smallest) i.job)
    v.members.items v.smallest h.members (h.smallest ∙ ap (λ (j : Job). (solved_at (problem_of j) ms e.smallest).0) i.job) (sym c.in_default.is ∙ c.end_after.ensures) in
    let q = ap (λ (x : Run). x.steps) t in
    record { job = h.job ∙ i.job; steps = omega (arith, q, i.steps); ending = sym (ap (λ (x : Run). x.ending) t) ∙ i.ending; smallest = sym (ap (λ (x : Run). x.smallest) t) ∙ i.smallest }

pub returns-in-Some : goal.returns-in-Some
returns-in-Some c =
    let P = problem_of c.args.job.now in
    let e = c.loop-k.exchange in
    let ms = e.members.items in
    let B = c.args.budget in
    let i = c.loop-k.invariant in
    let v = c.step-step.new.self in
    let h = c.step-step.ensures in
    let t = turn_over P B c.loop-k.k ms e.smallest c.loop-k-test.true c.step-step.result (h.value ∙ ap (λ (j : Job). step_at (problem_of j) ms e.smallest) i.job)
    v.smallest c.in-Some.end (h.smallest ∙ ap (λ (j : Job). (solved_at (problem_of j) ms e.smallest).0) i.job) (sym c.in-Some.is ∙ c.end_after.ensures) in
    let q = ap (λ (x : Run). x.steps) t in
    let r = c.report.ensures ∙ report_is (exchanged P B) _ _ _ (omega (arith, q, i.steps)) (sym (ap (λ (x : Run). x.ending) t) ∙ i.ending) (sym (ap (λ (x : Run). x.smallest) t) ∙ i.smallest) in
    record { value = r; law = lawful_run c.args.job.now B _ r; alone = alone_run c.args.job.now B _ r }

pub returns : goal.returns
returns c =
    let P = problem_of c.args.job.now in
    let e = c.loop-k.exchange in
    let B = c.args.budget in
    let i = c.loop-k.invariant in
    let t = run_spent P B c.loop-k.k e.members.items e.smallest c.loop-k-test.false in
    let q = ap (λ (x : Run). x.steps) t in
    let m = c.loop-k.auto.k-end in
    let r = c.report-2.ensures ∙ report_is (exchanged P B) _ _ _ (let k = c.loop-k-test.false in omega (arith, q, i.steps)) (sym (ap (λ (x : Run). x.ending) t) ∙ i.ending) (sym (ap (λ (x : Run). x.smallest) t) ∙ i.smallest) in
    record { value = r; law = lawful_run c.args.job.now B _ r; alone = alone_run c.args.job.now B _ r }
