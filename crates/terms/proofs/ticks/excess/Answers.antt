use Rattle.std.proofs.Common.{◌∙◌, w64, SFits, rules}
use Rattle.terms.proofs.Saturating.{excess_held, excess_alone}
use Rattle.terms.proofs.ticks.excess.Goals as goal

pub returns-clause-value : goal.returns-clause-value
returns-clause-value c =
    let fu : SFits w64 c.saturating_sub-under.result = search rules in
    let fa : SFits w64 c.saturating_sub-above.result = search rules in
    let fm : SFits w64 c.max.result = search rules in
    let fr : SFits w64 c.max-2.result = search rules in
    excess_held c.args.low c.args.high c.args.s c.saturating_sub-under.result c.saturating_sub-above.result c.max.result c.max-2.result
    (search rules) (search rules) (search rules) fu fa fm fr c.saturating_sub-under.ensures c.saturating_sub-above.ensures c.max.ensures.value c.max-2.ensures.value

pub returns-clause-near : goal.returns-clause-near
returns-clause-near c = λ near. returns-clause-value c ∙ excess_alone _ _ _ near
