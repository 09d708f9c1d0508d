use Rattle.std.proofs.Common.{◌≡◌, Err, ap, ◌∙◌, rules}
use Rattle.std.proofs.lemmas.Bool.{and_from}
use Rattle.evaluate.specs.Stated.{problem_of}
use Rattle.opening.proofs.Firsts.{none_of}
use Rattle.calls.specs.States.{floor_of}
use Rattle.plan.specs.Bettering.{above}
use Rattle.plan.specs.View.{pair_of}
use Rattle.job.proofs.Given.{given, given_is}
use Rattle.reasons.proofs.Fitting.{pair_many}
use Rattle.plan.proofs.Refused.{refused_same, allowed_same}
use Rattle.plan.proofs.judges.Judge.better_floor.Goals as goal

pub returns-in_err-check_pair : goal.returns-in_err-check_pair
returns-in_err-check_pair g c =
    let j = c.args.self.now in
    let e : c.from_residual.result ≡ Err c.in_err-check_pair.field-0.0 = search rules in
    e ∙ refused_same _ _ _ _ (c.in_err-check_pair.ensures (g.G.Table.meant j.g.now) (g.A.Table.meant j.a.now))

pub unwrap-floor-requires : goal.unwrap-floor-requires
unwrap-floor-requires g c =
    let j = c.args.self.now in
    let P = problem_of (g.G.Table.meant j.g.now) (g.A.Table.meant j.a.now) j.terms.now in
    let m = pair_many P (pair_of c.args.pair) (none_of _ _ _ (c.in_ok-check_pair.ensures (g.G.Table.meant j.g.now) (g.A.Table.meant j.a.now))) in
    given _ _ _ c.floor.ensures.value (and_from _ _ m.0 m.1)

pub returns : goal.returns
returns g c =
    let j = c.args.self.now in
    let P = problem_of (g.G.Table.meant j.g.now) (g.A.Table.meant j.a.now) j.terms.now in
    let m = pair_many P (pair_of c.args.pair) (none_of _ _ _ (c.in_ok-check_pair.ensures (g.G.Table.meant j.g.now) (g.A.Table.meant j.a.now))) in
    let v : c.unwrap-floor.result ≡ floor_of P (pair_of c.args.pair) = given_is _ _ _ _ c.floor.ensures.value (and_from _ _ m.0 m.1) c.unwrap-floor.ensures in
    let e : c.then_some.result ≡ above c.args.held c.unwrap-floor.result = search rules in
    allowed_same _ _ _ _ _ (c.in_ok-check_pair.ensures (g.G.Table.meant j.g.now) (g.A.Table.meant j.a.now)) (e ∙ ap (above c.args.held) v)
