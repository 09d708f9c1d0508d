use Rattle.std.proofs.Common.{rules}
use Rattle.terms.specs.Numbers.{ropes_of}
use Rattle.job.proofs.Reading.{wider}
use Rattle.reasons.proofs.refuses.refuse_row.Goals as goal

pub returns : goal.returns
returns g c =
    let h = wider (ropes_of c.args.terms.now) c.args.z.now c.requires in
    search rules
