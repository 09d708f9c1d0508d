use Rattle.std.proofs.Common.{◌∙◌, le_refl, w64, SFits, rules}
use Rattle.std.proofs.lemmas.Int.{to_z-of_z}
use Rattle.job.proofs.Reading.{reads_row, row_is}
use Rattle.job.proofs.numbers.Job.row_at.Goals as goal

pub strided_dot-requires : goal.strided_dot-requires
strided_dot-requires c =
    reads_row c.args.self.now c.args.z.now 1073741824 (le_refl 1073741824) c.requires.point c.args.i _ _ c.requires.row c.rows.ensures c.deref.ensures.0

pub returns : goal.returns
returns c =
    let f : SFits w64 c.strided_dot.result = search rules in
    to_z-of_z w64 _ f
    ∙ c.strided_dot.ensures
    ∙ row_is c.args.self.now c.args.z.now 1073741824 (le_refl 1073741824) c.requires.point c.args.i _ _ c.rows.ensures c.deref.ensures.0
