use Rattle.std.proofs.Common.{◌≡◌, ◌+◌, ◌-◌, List, length, sym, subst}
use lib.Ieee.{Float}
use borrow.Rule.Slice.PartMut.{put_mid}
use Rattle.elimination.specs.Lines.{cleared}
use Rattle.elimination.specs.Runs.{ClearedBy}
use Rattle.elimination.proofs.Lines.{cleared_put}
use Rattle.elimination.proofs.Clearing.{cleared_whole}
use Rattle.elimination.proofs.columns.clear_entry.Goals as goal

pub returns : goal.returns
returns c =
    let k = c.args.k in
    let p = c.args.pivot_line.now in
    let xs = c.args.line.now in
    let e : put_mid (k + 1) (length p - (k + 1)) xs c.subtract_multiple.new.line ≡ cleared k p xs = cleared_put k p xs c.subtract_multiple.new.line c.subtract_multiple.ensures in
    let P : List Float → Type 0 = ClearedBy (length p) k p xs in
    record { value = e; law = subst P (sym e) (cleared_whole k p xs c.requires.column) }
