use Rattle.std.proofs.Common.{sym, ◌∙◌, w64, SFits, rules}
use mir.Syntax.{w128}
use Rattle.std.proofs.lemmas.Int.{to_z-of_z}
use Rattle.std.proofs.lemmas.Bool.{and_from}
use Rattle.duality.specs.Lists.{places}
use Rattle.duality.proofs.Floor.{floor_sound}
use Rattle.evaluate.specs.Stated.{problem_of}
use Rattle.terms.proofs.Reading.{many_at}
use Rattle.evaluate.proofs.Reading.{given_value, answered}
use Rattle.evaluate.proofs.Flooring.{both_fit, slack_small, floor_is}
use Rattle.evaluate.proofs.floors.floor.Goals as goal

pub overflow_add-slack_of_rows : goal.overflow_add-slack_of_rows
overflow_add-slack_of_rows g c =
    let G = g.T.Table.meant c.args.g.now in
    let p = c.args.pair.point.now in
    let y = c.args.pair.multipliers.now in
    let hp = many_at _ _ 32768 p c.ropes.ensures (sym c.if-not-many_within.ensures) in
    let hy = many_at _ _ 16777216 y c.rows.ensures (sym c.if-not-many_within-2.ensures) in
    both_fit G (g.U.Table.meant c.args.a.now) c.args.terms.now p y hp hy _ _ (c.slack_of_rows.ensures G) c.slack_of_ropes.ensures

pub less_slack-requires : goal.less_slack-requires
less_slack-requires g c =
    let G = g.T.Table.meant c.args.g.now in
    let p = c.args.pair.point.now in
    let y = c.args.pair.multipliers.now in
    let hp = many_at _ _ 32768 p c.ropes.ensures (sym c.if-not-many_within.ensures) in
    let hy = many_at _ _ 16777216 y c.rows.ensures (sym c.if-not-many_within-2.ensures) in
    slack_small G (g.U.Table.meant c.args.a.now) c.args.terms.now p y hp hy _ _ (c.slack_of_rows.ensures G) c.slack_of_ropes.ensures

pub returns : goal.returns
returns g c =
    let G = g.T.Table.meant c.args.g.now in
    let A = g.U.Table.meant c.args.a.now in
    let t = c.args.terms.now in
    let p = c.args.pair.point.now in
    let y = c.args.pair.multipliers.now in
    let hp = many_at _ _ 32768 p c.ropes.ensures (sym c.if-not-many_within.ensures) in
    let hy = many_at _ _ 16777216 y c.rows.ensures (sym c.if-not-many_within-2.ensures) in
    let fv : SFits w64 c.in_ok-price.price = search rules in
    let v = to_z-of_z w64 _ fv ∙ given_value _ _ _ (c.in_ok-price.ensures A) in
    let f : SFits w128 c.less_slack.result = search rules in
    let e = to_z-of_z w128 _ f ∙ floor_is G A t p y hp hy _ _ (c.slack_of_rows.ensures G) c.slack_of_ropes.ensures _ c.less_slack.result v c.less_slack.ensures.value in
    record {
      value = answered _ _ _ (and_from _ _ hp hy) e;
      law = λ s x. rw e (floor_sound (problem_of G A t) s x (places p) (places y));
      small = rw (to_z-of_z w128 _ f) c.less_slack.ensures.small;
    }
