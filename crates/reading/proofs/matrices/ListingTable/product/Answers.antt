use Rattle.std.proofs.Common.{◌≡◌, None, Some, Option, ℤ, sym, ap, ◌∙◌, w64, SFits, rules}
use Rattle.std.proofs.lemmas.Int.{to_z-of_z}
use Rattle.table.specs.Grid.{product_of}
use Rattle.table.proofs.Products.{product_lawful}
use Rattle.reading.specs.Listings.{listing_grid}
use Rattle.reading.proofs.Listings.{listing_product, no_row, no_list}
use Rattle.reading.proofs.matrices.ListingTable.product.Goals as goal
use Rattle.reading.proofs.matrices.ListingTable.product.Goals.{then-i-self-via-then-i-self, then-i-self-via-else-i-self+then-not-many_within}

pub returns-then-i-self : goal.returns-then-i-self
returns-then-i-self c =
    let t = c.args.self.now in
    let none : product_of (listing_grid t.height t.width t.numbers.now) c.args.i c.args.xs.now ≡ None =
    elim c.then-i-self.branch [
      | then-i-self-via-then-i-self w ↦ no_row t.height t.width t.numbers.now t.high t.wide c.args.i c.args.xs.now t.near w.if-i-self.true
      | then-i-self-via-else-i-self+then-not-many_within w ↦
          no_list t.height t.width t.numbers.now t.high t.wide c.args.i c.args.xs.now t.near (sym w.if-not-many_within.ensures)
    ] in
    let e : ◌≡◌ {A = Option ℤ} None (product_of (listing_grid t.height t.width t.numbers.now) c.args.i c.args.xs.now) = sym none in
    let p = product_lawful (listing_grid t.height t.width t.numbers.now) c.args.i c.args.xs.now None e in
    record { value = e; bound = tt; exactly = p.1 }

pub returns : goal.returns
returns c =
    let t = c.args.self.now in
    let f : SFits w64 c.sum_along.result = search rules in
    let is = ap Some (to_z-of_z w64 _ f)
    ∙ sym (listing_product t.height t.width t.numbers.now t.high t.wide c.args.i c.args.xs.now t.near c.sum_along.result c.if-i-self.false
    (sym c.if-not-many_within.ensures) c.sum_along.ensures) in
    let p = product_lawful (listing_grid t.height t.width t.numbers.now) c.args.i c.args.xs.now _ is in
    record { value = is; bound = p.0; exactly = p.1 }
