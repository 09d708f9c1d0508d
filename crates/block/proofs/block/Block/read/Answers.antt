use Rattle.std.proofs.Common.{◌≡◌, ◌*◌, length, drop, Some, ap, ◌∙◌, arith}
use Rattle.std.proofs.lemmas.List.{length-drop, length-take-le}
use Rattle.block.specs.Blocks.{whole_at}
use Rattle.block.proofs.WholeAt.{block_small, whole_read, whole_some}
use Rattle.block.proofs.block.Block.read.Goals as goal

pub invariant_of-result : goal.invariant_of-result
invariant_of-result c =
    let bytes = c.in_ok-bytes.bytes.now in
    let there : Some bytes ≡ whole_at c.args.card.now c.args.number
    = whole_read c.args.card.now c.args.number c.in_ok-get.field-0.now bytes c.in_ok-get.ensures.lookup.0.2 c.in_ok-bytes.ensures.cases.enough c.in_ok-bytes.ensures.cases.same in
    record {
      long = ap length (whole_some c.args.card.now c.args.number bytes there).1 ∙ length-take-le 512 (drop (c.args.number * 512) c.args.card.now) (omega (arith, length-drop (c.args.number * 512) c.args.card.now, (whole_some c.args.card.now c.args.number bytes there).0));
      small = λ q. rw (whole_some c.args.card.now c.args.number bytes there).1 (block_small c.args.card.now c.args.number (λ k. (c.type_inv.card k).fits) q);
    }

pub returns : goal.returns
returns c = whole_read c.args.card.now c.args.number c.in_ok-get.field-0.now c.in_ok-bytes.bytes.now c.in_ok-get.ensures.lookup.0.2 c.in_ok-bytes.ensures.cases.enough c.in_ok-bytes.ensures.cases.same
