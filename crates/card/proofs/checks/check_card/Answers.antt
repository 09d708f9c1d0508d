use Rattle.std.proofs.Common.{◌≡◌, Ok, refl, sym, ◌∙◌, rules}
use Rattle.block.specs.Checks.{Verdict}
use Rattle.card.specs.Faults.{n_of, m_of, card_check, verdict}
use Rattle.card.proofs.Checking.{checked, exact_at, ropes_first, rows_first}
use Rattle.card.proofs.Saying.{rightly}
use Rattle.card.proofs.checks.check_card.Goals as goal

pub returns-in_err-check_length-clause-exact : goal.returns-in_err-check_length-clause-exact
returns-in_err-check_length-clause-exact c = exact_at c.args.card.now (λ k. (c.type_inv.card k).fits) (verdict c.from_residual.result) (search rules)

pub returns-in_err-check_length-clause-rightly : goal.returns-in_err-check_length-clause-rightly
returns-in_err-check_length-clause-rightly c = rightly c.args.card.now (verdict c.from_residual.result) (search rules)

pub returns-in_err-sizes : goal.returns-in_err-sizes
returns-in_err-sizes c =
    let card = c.args.card.now in
    let head = c.block_at.result.bytes.now in
    let v = verdict c.from_residual-in_err-sizes.result in
    let value : v ≡ card_check card = checked card head c.block_at.ensures (n_of head) (m_of head) refl refl v (search rules) in
    record { value = value; same = search rules; rightly = rightly card v value; exact = exact_at card (λ k. (c.type_inv.card k).fits) v value }

pub returns-in_err-check_full : goal.returns-in_err-check_full
returns-in_err-check_full c =
    let card = c.args.card.now in
    let head = c.block_at.result.bytes.now in
    let s = c.in_ok-sizes.sizes in
    let sizes = c.in_ok-sizes.ensures.sizes in
    let v : Verdict = verdict c.from_residual-in_err-check_full.result in
    let value : v ≡ card_check card = checked card head c.block_at.ensures s.ropes s.rows sizes.0 sizes.1 v (search rules) in
    record { value = value; same = search rules; rightly = rightly card v value; exact = exact_at card (λ k. (c.type_inv.card k).fits) v value }

pub returns-in_err-check_sections : goal.returns-in_err-check_sections
returns-in_err-check_sections c =
    let card = c.args.card.now in
    let head = c.block_at.result.bytes.now in
    let s = c.in_ok-sizes.sizes in
    let sizes = c.in_ok-sizes.ensures.sizes in
    let v : Verdict = verdict c.from_residual-in_err-check_sections.result in
    let value : v ≡ card_check card = checked card head c.block_at.ensures s.ropes s.rows sizes.0 sizes.1 v (search rules) in
    record { value = value; same = search rules; rightly = rightly card v value; exact = exact_at card (λ k. (c.type_inv.card k).fits) v value }

pub invariant_of-result : goal.invariant_of-result
invariant_of-result c =
    let card = c.args.card.now in
    let head = c.block_at.result.bytes.now in
    let s = c.in_ok-sizes.sizes in
    let sizes = c.in_ok-sizes.ensures.sizes in
    let value : ◌≡◌ {A = Verdict} (Ok tt) (card_check card) = checked card head c.block_at.ensures s.ropes s.rows sizes.0 sizes.1 (Ok tt) (search rules) in
    record { passes = sym value; ropes = sizes.0 ∙ ropes_first card head c.block_at.ensures; rows = sizes.1 ∙ rows_first card head c.block_at.ensures }

pub returns : goal.returns
returns c =
    let card = c.args.card.now in
    let head = c.block_at.result.bytes.now in
    let s = c.in_ok-sizes.sizes in
    let sizes = c.in_ok-sizes.ensures.sizes in
    let v : Verdict = Ok tt in
    let value : v ≡ card_check card = checked card head c.block_at.ensures s.ropes s.rows sizes.0 sizes.1 v (search rules) in
    record { value = value; same = refl; rightly = rightly card v value; exact = exact_at card (λ k. (c.type_inv.card k).fits) v value }
