use Rattle.std.proofs.Common.{◌≡◌, ◌-◌, ◌<◌, length, take, pos, ◌∙◌, arith, length-take, get_or-take, rules}
use Rattle.table.specs.Grid.{cut, product_of}
use Rattle.table.specs.Records.{triplet_grid}
use Rattle.table.proofs.Firsts.{line_product}
use Rattle.table.proofs.Products.{product_lawful}
use Rattle.table.proofs.triplets.TripletsTable.product.Goals as goal

pub returns : goal.returns
returns c =
    let t = c.args.self.now in
    let row = c.row_numbers-row.result in
    let w = c.width.result - 0 in
    let all : length row ≡ 64 = search rules in
    let long : length (take w row) ≡ cut t.width = let b = length-take w row in omega arith in
    let e : c.product.result ≡ product_of (triplet_grid t.height t.width t.records.now) c.args.i c.args.xs.now =
    c.product.ensures.value
    ∙ line_product t.height t.width t.records.now c.args.i c.args.xs.now (take w row) (omega arith) long
    (λ j h. let l : j < w = omega arith in get_or-take w row j (pos 0) l ∙ c.row_numbers-row.ensures j (omega arith)) in
    let p = product_lawful (triplet_grid t.height t.width t.records.now) c.args.i c.args.xs.now c.product.result e in
    record { value = e; bound = p.0; exactly = p.1 }
