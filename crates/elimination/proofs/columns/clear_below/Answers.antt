use Rattle.std.proofs.Common.{◌+◌, [], ◌++◌, map, length, get_or, take, ap, ◌∙◌, arith}
use Rattle.elimination.specs.Lines.{cleared}
use Rattle.elimination.proofs.columns.clear_below.Goals as goal

pub returns : goal.returns
returns c =
    let ls = c.args.lines.now in
    let k = c.args.k in
    let w = length ls + 1 in
    let s = c.split_at_mut-above.ensures in
    let above = c.split_at_mut-above.result.0.now in
    let below = c.split_at_mut-above.result.1.now in
    ap (λ z. above ++ z) c.clear_lines.ensures
    ∙ ap (λ z. z ++ map (cleared k (take w (get_or above k []))) below) s.front
    ∙ ap (λ z. take (k + 1) ls ++ map (cleared k (take w z)) below) (s.by_index.0 k [] (omega arith))
    ∙ ap (λ z. take (k + 1) ls ++ map (cleared k (take w (get_or ls k []))) z) s.back
