use Rattle.std.proofs.Common.{◌≡◌, true, arith}
use Rattle.terms.specs.Numbers.{ropes_of}
use Rattle.std.proofs.lemmas.Grind.{common_steps}
use Rattle.plan.specs.Inside.{held_within}
use Rattle.plan.proofs.Insides.{held_wider}
use Rattle.plan.proofs.amends.drop_broken.Goals as goal

pub returns-clause-value : goal.returns-clause-value
returns-clause-value g c =
    λ h.
    let w : held_within (ropes_of c.args.terms.now) 1073741824 c.args.point.now ≡ true = held_wider (ropes_of c.args.terms.now) c.args.point.now c.requires in
    grind (arith, common_steps)
