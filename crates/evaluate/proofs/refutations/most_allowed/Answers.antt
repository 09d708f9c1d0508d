use Rattle.std.proofs.Common.{length, ap, arith}
use Rattle.evaluate.proofs.Slacking.{most_all}
use Rattle.evaluate.proofs.Turning.{most_turn}
use Rattle.evaluate.proofs.refutations.most_allowed.Goals as goal

pub overflow_add-total : goal.overflow_add-total
overflow_add-total g c =
    (most_turn (g.T.Table.meant c.args.a.now) c.args.terms.now c.args.y.now c.requires c.loop-j.j _ _ c.deref-low-items.ensures.0 c.loop-j-test.true _ _ _
    c.column_of.ensures c.deref.ensures.0 c.loop-j.invariant c.highest-total.ensures).fits

pub loop-j-preserved : goal.loop-j-preserved
loop-j-preserved g c =
    (most_turn (g.T.Table.meant c.args.a.now) c.args.terms.now c.args.y.now c.requires c.loop-j.j _ _ c.deref-low-items.ensures.0 c.loop-j-test.true _ _ _
    c.column_of.ensures c.deref.ensures.0 c.loop-j.invariant c.highest-total.ensures).more

pub returns : goal.returns
returns g c =
    let t = c.args.terms.now in
    let long = ap length c.deref-low-items.ensures.0 in
    λ h. most_all h (g.T.Table.meant c.args.a.now) t c.args.y.now c.requires c.loop-j.j _ (omega (arith, long, t.lefts.0)) c.loop-j.invariant
