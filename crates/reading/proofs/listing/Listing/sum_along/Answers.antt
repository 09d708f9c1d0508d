use Rattle.std.proofs.Common.{arith}
use Rattle.reading.proofs.Listings.{next_product, next_sum, next_is, last_is}
use Rattle.reading.proofs.listing.Listing.sum_along.Goals as goal

pub overflow_mul-sum : goal.overflow_mul-sum
overflow_mul-sum c =
    let t = c.args.self.now in
    next_product t.height t.width t.numbers.now t.wide t.near c.args.i c.args.xs.now c.requires.list c.loop-j.j

pub overflow_add-sum-in-loop-j : goal.overflow_add-sum-in-loop-j
overflow_add-sum-in-loop-j c =
    let t = c.args.self.now in
    next_sum t.height t.width t.numbers.now t.wide t.near c.args.i c.args.xs.now c.requires.list c.loop-j.j _ c.loop-j-test.true c.loop-j.invariant

pub loop-j-preserved : goal.loop-j-preserved
loop-j-preserved c =
    let t = c.args.self.now in
    next_is t.height t.width t.numbers.now t.wide t.near c.args.i c.args.xs.now c.requires.list c.loop-j.j _ c.loop-j-test.true c.loop-j.invariant

pub returns : goal.returns
returns c =
    let t = c.args.self.now in
    last_is t.height t.width t.numbers.now t.wide t.near c.args.i c.args.xs.now c.requires.list c.loop-j.j _
    (omega (arith, c.loop-j-test.false, c.loop-j.auto.j-end)) c.loop-j.invariant
