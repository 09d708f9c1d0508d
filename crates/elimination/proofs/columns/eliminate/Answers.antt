use Rattle.std.proofs.Common.{◌≡◌, ℕ, ◌+◌, List, length, Some, None, Option, ap, sym, ◌∙◌, subst, arith}
use native.Mathlib.Nat.{sub-zero}
use lib.Ieee.{Float}
use Rattle.elimination.specs.Lines.{column_tried, lesser, Triangle}
use Rattle.elimination.proofs.Ending.{triangular_from}
use Rattle.elimination.proofs.Steps.{columns_some, columns_none, columns_all}
use Rattle.elimination.proofs.columns.eliminate.Goals as goal
use Rattle.elimination.proofs.columns.eliminate.Goals.{then-size-smallest, else-size-smallest}

pub loop-k-init : goal.loop-k-init
loop-k-init c = rw sub-zero

pub loop-k-preserved : goal.loop-k-preserved
loop-k-preserved c =
    let n = length c.args.lines.now in
    let k = c.loop-k.k in
    let P : ℕ → Type 0 = λ m. ◌≡◌ {A = Option Float × List (List Float)} (Some c.in_ok-size.size, c.eliminate_column.new.lines) (column_tried (m + 1) k c.loop-k.lines) in
    let u : c.if-size-smallest.smallest ≡ lesser c.loop-k.smallest c.in_ok-size.size =
    elim c.if-size-smallest.branch [
      | then-size-smallest w ↦ w.smallest-is ∙ rw w.if-size-smallest.true
      | else-size-smallest w ↦ w.smallest-is ∙ rw w.if-size-smallest.false
    ] in
    columns_some (n + 1) n k c.loop-k.smallest c.loop-k.lines c.in_ok-size.size c.if-size-smallest.smallest c.eliminate_column.new.lines c.loop-k-test.true (subst P c.loop-k.auto.lines c.in_ok-size.ensures.value) u
    ∙ c.loop-k.invariant

pub returns-in_err-size : goal.returns-in_err-size
returns-in_err-size c =
    let n = length c.args.lines.now in
    let k = c.loop-k.k in
    let P : ℕ → Type 0 = λ m. ◌≡◌ {A = Option Float × List (List Float)} (None, c.eliminate_column.new.lines) (column_tried (m + 1) k c.loop-k.lines) in
    let e = columns_none (n + 1) n k c.loop-k.smallest c.loop-k.lines c.eliminate_column.new.lines c.loop-k-test.true (subst P c.loop-k.auto.lines c.in_err-size.ensures.value) ∙ c.loop-k.invariant in
    rw c.from_residual.ensures
    (record {
      whole = ap (λ (t : Triangle). t.whole) e;
      smallest = ap (λ (t : Triangle). t.least) e;
      lines = ap (λ (t : Triangle). t.lines) e;
      law = triangular_from c.args.smallest.now c.args.lines.now (λ i l. omega (arith, c.told-lines i l, c.requires)) _ e;
    })

pub returns : goal.returns
returns c =
    let n = length c.args.lines.now in
    let e = sym (columns_all (n + 1) n c.loop-k.k c.loop-k.smallest c.loop-k.lines c.loop-k-test.false) ∙ c.loop-k.invariant in
    record {
      whole = ap (λ (t : Triangle). t.whole) e;
      smallest = ap (λ (t : Triangle). t.least) e;
      lines = ap (λ (t : Triangle). t.lines) e;
      law = triangular_from c.args.smallest.now c.args.lines.now (λ i l. omega (arith, c.told-lines i l, c.requires)) _ e;
    }
