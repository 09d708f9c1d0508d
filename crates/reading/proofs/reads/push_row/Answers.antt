use Rattle.std.proofs.Common.{rules, w64, SFits, ◌∙◌, ap, unwrap_or, pos}
use Rattle.std.proofs.lemmas.Int.{to_z-of_z}
use Rattle.reading.proofs.Listed.{row_more, row_fits}
use Rattle.table.specs.Grid.{matrix_of}
use Rattle.reading.proofs.reads.push_row.Goals as goal

pub push-requires : goal.push-requires
push-requires g c = (search rules, row_fits (matrix_of (g.T.Table.meant c.args.table.now) c.args.i) _ _ c.loop-j.j c.args.count _ c.loop-j.invariant c.loop-j-test.true c.requires)

pub loop-j-preserved : goal.loop-j-preserved
loop-j-preserved g c =
    let f : SFits w64 c.unwrap_or.result = search rules in
    row_more (matrix_of (g.T.Table.meant c.args.table.now) c.args.i) c.args.list.now.items c.loop-j.list.items _ _ c.loop-j.j c.loop-j.invariant c.push.ensures.items
    (to_z-of_z w64 _ f ∙ c.unwrap_or.ensures ∙ ap (λ o. unwrap_or o (pos 0)) c.place.ensures.value)
