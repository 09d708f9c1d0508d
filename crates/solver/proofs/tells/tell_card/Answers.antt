use Rattle.std.proofs.Common.{◌≡◌, ◌≤◌, leb, Err, Result, length, sym, ap, ◌∙◌, arith}
use Rattle.std.proofs.lemmas.Bool.{cond-true, le-leb}
use Rattle.opening.specs.declared.refusal.Refusal.{Refusal}
use Rattle.print.specs.Printing.{refused_text}
use Rattle.solver.specs.declared.solved.Solved.{Solved}
use Rattle.solver.specs.Outcomes.{written, solve_answer, solve_after}
use Rattle.solver.specs.Telling.{told_in}
use Rattle.solver.proofs.Printing.{refusal_stays}
use Rattle.solver.proofs.tells.tell_card.Goals as goal

pub returns-in-Err-clause-after : goal.returns-in-Err-clause-after
returns-in-Err-clause-after c =
    let card = c.args.card.now in
    let out = c.args.out.now in
    let room : 320 ≤ length out = omega arith in
    let e : Err c.in-Err.refusal ≡ solve_answer card (length out) = c.in-Err.ensures.answer in
    let same : c.solve_card.new.out ≡ out = c.in-Err.ensures.after ∙ refusal_stays card out c.in-Err.refusal e in
    c.refuse.ensures.list ∙ ap (written (refused_text c.in-Err.refusal)) same
    ∙ ap (λ (r : Result Solved Refusal). told_in r out (solve_after card out)) e
    ∙ sym (cond-true (leb 320 (length out)) _ _ (le-leb _ _ room))
