use Rattle.std.proofs.Common.{◌≡◌, ◌<◌, Ok, Err, sym, ap, ◌∙◌, arith}
use Rattle.std.proofs.lemmas.Result.{err_from_is_err_and}
use Rattle.block.specs.Kinds.{letter_of}
use Rattle.block.specs.Blocks.{block_at}
use Rattle.block.specs.Checks.{block_check}
use Rattle.section.specs.Layout.{blocks_for}
use Rattle.card.specs.Faults.{run_check}
use Rattle.card.proofs.Runs.{run_past, run_stops}
use Rattle.card.proofs.checks.check_run.Goals as goal

pub returns-in_err-check : goal.returns-in_err-check
returns-in_err-check c =
    let p = err_from_is_err_and c.from_residual.result c.from_residual.ensures.1 in
    let stops : block_check (block_at c.args.card.now c.loop-number.number) (letter_of c.args.kind) c.loop-number.number c.min-used.result ≡ Err c.in_err-check.field-0.0
    = sym (c.in_err-check.ensures.value ∙ ap (λ b. block_check b (letter_of c.args.kind) c.loop-number.number c.min-used.result) c.block_at.ensures) in
    rw (p.1, p.2)
    (sym (run_stops c.args.card.now (letter_of c.args.kind) c.loop-number.number c.loop-number.left (omega arith) c.min-used.result c.min-used.ensures c.in_err-check.field-0.0 stops)
    ∙ c.loop-number.invariant.0)

pub loop-number-preserved : goal.loop-number-preserved
loop-number-preserved c =
    let some : 0 < c.loop-number.left = omega arith in
    let ok : block_check (block_at c.args.card.now c.loop-number.number) (letter_of c.args.kind) c.loop-number.number c.min-used.result ≡ Ok tt
    = sym (c.in_ok-check.ensures.value ∙ ap (λ b. block_check b (letter_of c.args.kind) c.loop-number.number c.min-used.result) c.block_at.ensures) in (
      sym (run_past c.args.card.now (letter_of c.args.kind) c.loop-number.number c.loop-number.left some c.min-used.result c.min-used.ensures ok) ∙ c.loop-number.invariant.0,
      omega (arith, c.loop-number.invariant.1, c.min-used.ensures),
      omega (arith, c.loop-number.invariant.2),
    )

pub returns : goal.returns
returns c =
    let none : c.loop-number.left ≡ 0 = omega (arith, c.loop-number.invariant.1) in
    sym (ap (λ l. run_check c.args.card.now (letter_of c.args.kind) c.loop-number.number l (blocks_for l)) none) ∙ c.loop-number.invariant.0
