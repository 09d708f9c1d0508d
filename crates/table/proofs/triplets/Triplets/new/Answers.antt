use Rattle.std.proofs.Common.{refl, w64}
use Rattle.std.proofs.lemmas.Int.{to_z-of_z}
use Rattle.table.proofs.Firsts.{told}
use Rattle.table.proofs.triplets.Triplets.new.Goals as goal

pub returns : goal.returns
returns c =
    let fh = c.ranges.height in
    let fw = c.ranges.width in
    record {
      holds = (to_z-of_z w64 _ fh, (to_z-of_z w64 _ fw, refl));
      told = simp to_z-of_z (told c.args.height c.args.width c.args.records.now);
    }
