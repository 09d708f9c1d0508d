use Rattle.std.proofs.Common.{◌∙◌, lit≤, w64, SFits, rules}
use Rattle.std.proofs.lemmas.Int.{to_z-of_z}
use Rattle.job.proofs.Reading.{reads_across, across_is}
use Rattle.job.proofs.numbers.Job.across.Goals as goal

pub strided_dot-requires : goal.strided_dot-requires
strided_dot-requires c =
    reads_across c.args.self.now c.args.z.now 32768 (lit≤ tt) c.requires.point c.args.j _ _ c.requires.rope c.ropes.ensures c.deref.ensures.0

pub returns : goal.returns
returns c =
    let f : SFits w64 c.strided_dot.result = search rules in
    to_z-of_z w64 _ f
    ∙ c.strided_dot.ensures
    ∙ across_is c.args.self.now c.args.z.now 32768 (lit≤ tt) c.requires.point c.args.j _ _ c.ropes.ensures c.deref.ensures.0
