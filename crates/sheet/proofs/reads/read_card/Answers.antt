use Rattle.std.proofs.Common.{List, ℕ, ap, ◌∙◌}
use Rattle.card.proofs.Whole.{card_back}
use Rattle.sheet.specs.Reading.{lists_on}
use Rattle.sheet.proofs.Carrying.{same_again}
use Rattle.sheet.proofs.Counts.{job_read}
use Rattle.sheet.proofs.reads.read_card.Goals as goal

pub returns : goal.returns
returns c =
    let sound = c.in_ok-sound.ensures in
    let card = c.args.card.now in
    record {
      answer =
          job_read card _ _ _ sound.value c.curvature.ensures.meant c.rows.ensures.meant
          (c.lists_of.ensures ∙ ap (λ (bytes : List ℕ). lists_on bytes) sound.same);
      again = same_again card (card_back card (λ k. (c.type_inv.card k).fits));
    }

pub returns-in_err-sound-clause-again : goal.returns-in_err-sound-clause-again
returns-in_err-sound-clause-again c = same_again c.args.card.now (card_back c.args.card.now (λ k. (c.type_inv.card k).fits))
