use Rattle.std.proofs.Common.{◌^◌, ◌≤◌, nat_abs, sym, subst}
use Rattle.evaluate.proofs.Widening.{less_slack_is, less_slack_small}
use Rattle.evaluate.proofs.wide.less_slack.Goals as goal

pub returns : goal.returns
returns c =
    let e = less_slack_is c.args.cost c.args.slack c.ranges.cost c.requires in
    record { value = e; small = subst (λ v. nat_abs v ≤ 2 ^ 122) (sym e) (less_slack_small c.args.cost c.args.slack c.ranges.cost c.requires) }
