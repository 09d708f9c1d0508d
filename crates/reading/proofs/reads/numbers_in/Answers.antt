use Rattle.std.proofs.Common.{◌≡◌, ℕ, Some, None, List, ℤ, min, sym, ap, ◌∙◌, rules, arith}
use Rattle.std.proofs.lemmas.Bool.{leb-true, cond-true}
use Rattle.table.specs.Grid.{matrix_of}
use Rattle.reading.specs.Plain.{listed}
use Rattle.reading.proofs.Listed.{listed_none, listed_more, listed_fits, listed_held, listed_rows}
use Rattle.reading.proofs.reads.numbers_in.Goals as goal

pub loop-i-init : goal.loop-i-init
loop-i-init g c = listed_none c.args.columns (matrix_of (g.T.Table.meant c.args.table.now)) _ c.new-list.ensures

pub push_row-requires : goal.push_row-requires
push_row-requires g c =
    let room = leb-true _ _ (sym c.if-not-have_room.ensures) in (
      search rules,
      listed_fits c.loop-i.i c.args.rows c.args.columns _ (matrix_of (g.T.Table.meant c.args.table.now)) _ c.loop-i.invariant
          (omega (arith, c.loop-i-test.true, c.min-i-end.ensures)) room,
    )

pub loop-i-preserved : goal.loop-i-preserved
loop-i-preserved g c =
    listed_more c.loop-i.i c.args.columns (matrix_of (g.T.Table.meant c.args.table.now)) c.loop-i.list.items _ c.loop-i.invariant c.push_row.ensures

pub returns : goal.returns
returns g c =
    let M = matrix_of (g.T.Table.meant c.args.table.now) in
    let fit = sym c.if-not-have_room.ensures in
    let e : c.loop-i.i ≡ min c.args.rows _ = omega (arith, c.loop-i-test.false, c.loop-i.auto.i-end, c.min-i-end.ensures) in
    let all = c.loop-i.invariant ∙ ap (λ (n : ℕ). listed n c.args.columns M) e ∙ listed_held c.args.rows c.args.columns _ M (leb-true _ _ fit) in
    record {
      value = ap (λ (xs : List ℤ). Some xs) all ∙ sym (cond-true _ (Some (listed c.args.rows c.args.columns M)) None fit);
      law = listed_rows c.args.rows c.args.columns M c.loop-i.list.items all;
    }
