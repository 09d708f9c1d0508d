use Rattle.std.proofs.Common.{◌+◌, ◌*◌, pos, nat_abs, Some, sym, ap, ◌∙◌, w64, SFits, slice_index_or, arith, rules}
use Rattle.std.proofs.lemmas.Int.{to_z-of_z}
use Rattle.duality.proofs.Tests.{within_at}
use Rattle.reading.proofs.Listings.{listing_place}
use Rattle.reading.proofs.matrices.ListingTable.place.Goals as goal

pub returns-clause-value : goal.returns-clause-value
returns-clause-value c =
    let t = c.args.self.now in
    let f : SFits w64 (slice_index_or t.numbers.now (c.args.i * t.width + c.args.j) (pos 0)) = search rules in
    ap Some (to_z-of_z w64 _ f)
    ∙ sym (listing_place t.height t.width t.numbers.now t.high t.wide c.args.i c.args.j t.near c.if-i-self.false c.if-j-self.false)

pub returns-clause-bound : goal.returns-clause-bound
returns-clause-bound c =
    let t = c.args.self.now in
    let f : SFits w64 (slice_index_or t.numbers.now (c.args.i * t.width + c.args.j) (pos 0)) = search rules in
    omega (arith, ap nat_abs (to_z-of_z w64 _ f), within_at 1048576 t.numbers.now (c.args.i * t.width + c.args.j) t.near)
