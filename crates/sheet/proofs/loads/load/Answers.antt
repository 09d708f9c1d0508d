use Rattle.std.proofs.Common.{IfOk, subst}
use Rattle.std.proofs.lemmas.Result.{err_from_is_err_and}
use Rattle.calls.specs.Opened.{Sound, viewed}
use Rattle.card.specs.Grids.{grid_of}
use Rattle.card.proofs.Whole.{card_back}
use Rattle.opening.specs.Opening.{Numbers, numbers_of}
use Rattle.plan.specs.View.{view}
use Rattle.sheet.specs.Reading.{Job, lists_of}
use Rattle.sheet.proofs.Carrying.{same_again}
use Rattle.sheet.proofs.Opening.{loaded, not_read, read_is}
use Rattle.sheet.proofs.loads.load.Goals as goal

pub returns : goal.returns
returns c =
    let card = c.args.card.now in
    let job = c.in_ok-job.job in
    let j : Job = record { g = grid_of job.g; a = grid_of job.a; x = lists_of job.lists } in
    let x : Numbers = numbers_of c.lists.result in
    record {
      answer = loaded card j c.in_ok-job.ensures.answer x c.lists.ensures (viewed (view grid_of grid_of) c.open.result) c.open.ensures.answer;
      sound =
          subst (λ (k : Job). IfOk c.open.result (λ p. Sound k.g k.a k.x (view grid_of grid_of p))) (read_is card j c.in_ok-job.ensures.answer x c.lists.ensures)
          (subst (λ (y : Numbers). IfOk c.open.result (λ p. Sound j.g j.a y (view grid_of grid_of p))) c.lists.ensures c.open.ensures.sound);
      again = same_again card (card_back card (λ k. (c.type_inv.card k).fits));
    }

pub returns-in_err-job-clause-answer : goal.returns-in_err-job-clause-answer
returns-in_err-job-clause-answer c =
    let p = err_from_is_err_and c.from_residual.result c.from_residual.ensures.1 in
    rw (p.1, p.2) (not_read c.args.card.now c.in_err-job.field-0.0 c.in_err-job.ensures.answer)

pub returns-in_err-job-clause-again : goal.returns-in_err-job-clause-again
returns-in_err-job-clause-again c = same_again c.args.card.now (card_back c.args.card.now (λ k. (c.type_inv.card k).fits))
