use Rattle.std.proofs.Common.{◌≡◌, Err, None, ◌∙◌, subst, rules}
use Rattle.card.specs.Grids.{grid_of}
use Rattle.calls.specs.States.{State}
use Rattle.calls.specs.Solving.{report, LawfulSolve}
use Rattle.plan.specs.View.{view}
use Rattle.plan.proofs.Refused.{given_of}
use Rattle.sheet.specs.Loading.{load_answer}
use Rattle.solver.proofs.Printing.{printed, refused}
use Rattle.solver.proofs.Truth.{Solves, same_state, honest_sheet}
use Rattle.solver.proofs.solve_card.Goals as goal

pub returns-in_err-bytes-clause-answer : goal.returns-in_err-bytes-clause-answer
returns-in_err-bytes-clause-answer c =
    let s : State = view grid_of grid_of c.in_ok-plan.plan in
    let t : State = view grid_of grid_of c.solve.new.self in
    let r = c.in_ok-report in
    let p = c.in_err-bytes.ensures in
    let e : c.from_residual-in_err-bytes.result ≡ Err c.in_err-bytes.field-0.0 = search rules in
    e ∙ (refused (load_answer c.args.card.now) c.args.out.now c.print_plan.new.out s t r.report c.in_ok-plan.ensures.answer (given_of None (report s 1000 100000) r.report r.ensures.answer) r.ensures.after
    c.in_err-bytes.field-0.0 p.answer p.after).answer

pub returns-in_err-bytes-clause-after : goal.returns-in_err-bytes-clause-after
returns-in_err-bytes-clause-after c =
    let s : State = view grid_of grid_of c.in_ok-plan.plan in
    let t : State = view grid_of grid_of c.solve.new.self in
    let r = c.in_ok-report in
    let p = c.in_err-bytes.ensures in
    (refused (load_answer c.args.card.now) c.args.out.now c.print_plan.new.out s t r.report c.in_ok-plan.ensures.answer (given_of None (report s 1000 100000) r.report r.ensures.answer) r.ensures.after
    c.in_err-bytes.field-0.0 p.answer p.after).after

pub returns-clause-answer : goal.returns-clause-answer
returns-clause-answer c =
    let s : State = view grid_of grid_of c.in_ok-plan.plan in
    let t : State = view grid_of grid_of c.solve.new.self in
    let r = c.in_ok-report in
    let p = c.in_ok-bytes.ensures in
    (printed (load_answer c.args.card.now) c.args.out.now c.print_plan.new.out s t r.report c.in_ok-plan.ensures.answer (given_of None (report s 1000 100000) r.report r.ensures.answer) r.ensures.after
    c.in_ok-bytes.bytes p.answer p.after).answer

pub returns-clause-after : goal.returns-clause-after
returns-clause-after c =
    let s : State = view grid_of grid_of c.in_ok-plan.plan in
    let t : State = view grid_of grid_of c.solve.new.self in
    let r = c.in_ok-report in
    let p = c.in_ok-bytes.ensures in
    (printed (load_answer c.args.card.now) c.args.out.now c.print_plan.new.out s t r.report c.in_ok-plan.ensures.answer (given_of None (report s 1000 100000) r.report r.ensures.answer) r.ensures.after
    c.in_ok-bytes.bytes p.answer p.after).after

pub returns-clause-law : goal.returns-clause-law
returns-clause-law c =
    let card = c.args.card.now in
    let s : State = view grid_of grid_of c.in_ok-plan.plan in
    let r = c.in_ok-report in
    let told : r.report ≡ report s 1000 100000 = given_of None (report s 1000 100000) r.report r.ensures.answer in
    let solved : Solves s = subst (LawfulSolve s 1000 100000) told r.ensures.law in
    honest_sheet card c.args.out.now c.print_plan.new.out
    (λ t loads. subst Solves (same_state (load_answer card) s t c.in_ok-plan.ensures.answer loads) solved) _ (returns-clause-answer c) (returns-clause-after c)
