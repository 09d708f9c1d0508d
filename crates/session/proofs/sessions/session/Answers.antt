use Rattle.std.proofs.Common.{map}
use Rattle.opening.specs.Opening.{numbers_of, open_fault}
use Rattle.calls.specs.Opened.{opened}
use Rattle.plan.specs.View.{view}
use Rattle.session.specs.Said.{asked_of, told}
use Rattle.session.specs.Answering.{answered}
use Rattle.session.proofs.Turns.{opened_ok, opened_err, refused_answer, refused_slots, made_slots, session_honest}
use Rattle.session.proofs.sessions.session.Goals as goal

pub returns-clause-law : goal.returns-clause-law
returns-clause-law g c =
    let gm = g.G.Table.meant c.args.g in
    let am = g.A.Table.meant c.args.a in
    let x = numbers_of c.args.lists.now in
    let s = view g.G.Table.meant g.A.Table.meant c.in_ok-plan.plan in
    let opens = opened_ok (open_fault gm am x) (opened gm am x) s c.in_ok-plan.ensures.answer in
    session_honest gm am x (map asked_of c.args.asked.now) (told c.run.new.asked) s opens.0 opens.1 c.run.ensures.law

pub returns-clause-slots : goal.returns-clause-slots
returns-clause-slots g c =
    let gm = g.G.Table.meant c.args.g in
    let am = g.A.Table.meant c.args.a in
    let x = numbers_of c.args.lists.now in
    let s = view g.G.Table.meant g.A.Table.meant c.in_ok-plan.plan in
    let opens = opened_ok (open_fault gm am x) (opened gm am x) s c.in_ok-plan.ensures.answer in
    made_slots (open_fault gm am x) (opened gm am x) s c.run.new.asked c.args.asked.now opens.0 opens.1 c.run.ensures.answers

pub returns-in_err-plan-clause-answer : goal.returns-in_err-plan-clause-answer
returns-in_err-plan-clause-answer g c =
    let gm = g.G.Table.meant c.args.g in
    let am = g.A.Table.meant c.args.a in
    let x = numbers_of c.args.lists.now in
    let f = c.in_err-plan.field-0.0 in
    refused_answer (open_fault gm am x) f c.from_residual.result (opened_err (open_fault gm am x) (opened gm am x) f c.in_err-plan.ensures.answer) c.from_residual.ensures.1

pub returns-in_err-plan-clause-slots : goal.returns-in_err-plan-clause-slots
returns-in_err-plan-clause-slots g c =
    let gm = g.G.Table.meant c.args.g in
    let am = g.A.Table.meant c.args.a in
    let x = numbers_of c.args.lists.now in
    let f = c.in_err-plan.field-0.0 in
    let asked = c.args.asked.now in
    refused_slots (open_fault gm am x) f (answered (opened gm am x) asked) asked (opened_err (open_fault gm am x) (opened gm am x) f c.in_err-plan.ensures.answer)
