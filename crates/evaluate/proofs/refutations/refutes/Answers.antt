use Rattle.std.proofs.Common.{sym}
use Rattle.duality.specs.Lists.{places}
use Rattle.evaluate.specs.Stated.{problem_of}
use Rattle.terms.proofs.Reading.{many_at}
use Rattle.evaluate.proofs.Reading.{answered}
use Rattle.evaluate.proofs.Flooring.{compared, refutes_decides, leaves_none}
use Rattle.evaluate.proofs.refutations.refutes.Goals as goal

pub returns : goal.returns
returns g c =
    let t = c.args.terms.now in
    let y = c.args.y.now in
    let A = g.T.Table.meant c.args.a.now in
    let hy = many_at _ _ 16777216 y c.rows.ensures (sym c.if-not-many_within.ensures) in
    record {
      value = λ h. answered _ _ _ hy (compared h A t y hy _ _ (c.most_allowed-most.ensures h) (c.least_needed-least.ensures h A));
      law = λ h. refutes_decides (problem_of h A t) (places y) _ (compared h A t y hy _ _ (c.most_allowed-most.ensures h) (c.least_needed-least.ensures h A));
      sound = λ h. leaves_none (problem_of h A t) (places y) _ (compared h A t y hy _ _ (c.most_allowed-most.ensures h) (c.least_needed-least.ensures h A));
    }
