use Rattle.std.proofs.Common.{ap, ◌∙◌}
use Rattle.block.specs.Kinds.{letter_of}
use Rattle.section.specs.Layout.{blocks_for, first_of}
use Rattle.card.specs.Faults.{section_check, run_check}
use Rattle.card.proofs.full.Full.check_section.Goals as goal

pub returns : goal.returns
unfolding section_check
returns c =
    let card = c.args.self.now.card.now in
    let n = c.args.self.now.sizes.ropes in
    let m = c.args.self.now.sizes.rows in
    let kind = c.args.kind in
    c.check_run.ensures
    ∙ (ap (λ f. run_check card (letter_of kind) f c.count.result (blocks_for c.count.result)) c.first-first.ensures.value
    ∙ ap (λ k. run_check card (letter_of kind) (first_of kind n m) k (blocks_for k)) c.count.ensures.value)
