use Rattle.std.proofs.Common.{sym, ◌∙◌, arith}
use Rattle.elimination.proofs.Lines.{less_more, less_all}
use Rattle.elimination.proofs.columns.subtract_multiple.Goals as goal

pub loop-i-preserved : goal.loop-i-preserved
loop-i-preserved c =
    less_more c.args.f c.loop-i.line c.args.pivot_line.now c.loop-i.i (omega arith) (omega arith) ∙ c.loop-i.invariant

pub returns : goal.returns
returns c = sym (less_all c.args.f c.loop-i.line c.args.pivot_line.now c.loop-i.i (omega arith)) ∙ c.loop-i.invariant
