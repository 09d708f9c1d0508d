use Rattle.std.proofs.Common.{[], get_or, set, ap, ◌∙◌, arith}
use Rattle.std.proofs.lemmas.List.{get_or_default}
use Rattle.std.proofs.lemmas.List.Edits.{map_over_more}
use Rattle.elimination.specs.Lines.{cleared}
use Rattle.elimination.proofs.columns.clear_lines.Goals as goal

pub loop-line-preserved : goal.loop-line-preserved
loop-line-preserved c =
    let vs = c.loop-line.lines in
    let i = c.loop-line.line-index in
    ap (set vs i) c.clear_entry.ensures.value
    ∙ map_over_more (cleared c.args.k c.args.pivot_line.now) c.args.lines.now vs i (get_or vs i []) c.loop-line-test.true c.loop-line.invariant (get_or_default vs i _ _ (omega arith))
