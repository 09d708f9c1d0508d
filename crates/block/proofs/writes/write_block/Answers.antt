use Rattle.std.proofs.Common.{◌≡◌, ◌+◌, ◌*◌, ◌-◌, ◌≤◌, List, ℕ, length, take, sym, ap, ◌∙◌, subst, arith}
use Rattle.std.proofs.lemmas.Bool.{le-leb}
use Rattle.block.specs.Kinds.{letter_of}
use Rattle.block.specs.Blocks.{block_of, Fit}
use Rattle.block.specs.Writes.{Stands}
use Rattle.block.proofs.Laying.{first_part, length_block, length_part}
use Rattle.block.proofs.Placing.{placed, stands}
use Rattle.block.proofs.writes.write_block.Goals as goal

pub returns : goal.returns
returns c =
    let card = c.args.card.now in
    let k = c.args.number in
    let letter = letter_of c.args.kind in
    let nums = take 126 c.args.numbers.now in
    let room : k * 512 + 512 ≤ length card = omega arith in
    let part : take c.min-count.result c.args.numbers.now ≡ nums = first_part c.min-count.result c.args.numbers.now (omega arith) in
    let made : c.fill_block.new.bytes ≡ block_of letter k nums = c.fill_block.ensures.value ∙ ap (block_of letter k) part in
    let fits : Fit nums = subst Fit part c.fill_block.ensures.fits in
    let put = placed card k room (k * 512 + 512 - k * 512) c.fill_block.new.bytes (block_of letter k nums) made (length_block letter k nums (length_part c.args.numbers.now)) (omega arith) in
    record {
      has = sym (le-leb (k * 512 + 512) (length card) room);
      value = put;
      stands = λ e. subst (λ (xs : List ℕ). Stands xs letter k c.args.numbers.now) (sym put) (stands card k room letter c.args.numbers.now (omega arith) fits);
      fits = λ e. fits;
    }
