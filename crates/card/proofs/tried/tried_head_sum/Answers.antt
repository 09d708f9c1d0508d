use Rattle.std.proofs.Common.{◌≡◌, ℕ, Bool, cond, List, [], ◌∷◌, length, replicate, pos, sym, refl, ap, ◌∙◌, arith}
use Rattle.block.specs.Blocks.{check_of, block_of, body_of, block_at, bytes_of}
use Rattle.block.specs.Writes.{put_block}
use Rattle.block.proofs.Laying.{length_block}
use Rattle.block.proofs.Placing.{put_there}
use Rattle.block.proofs.WholeAt.{whole_some}
use Rattle.card.specs.Cards.{head_of}
use Rattle.card.proofs.tried.tried_head_sum.Goals as goal

head_sum : check_of (head_of 2 1) ≡ 91
unfolding block_of body_of
head_sum = refl

pub returns : goal.returns
returns c =
    let B : List ℕ = head_of 2 1 in
    let zeros : List ℕ = replicate 512 0 in
    let long : length B ≡ 512 = length_block 72 0 (pos 2 ∷ pos 1 ∷ []) (omega arith) in
    let card : c.write_block.new.card ≡ put_block zeros 0 B
    = c.write_block.ensures.value ∙ ap (λ (t : Bool). cond t (put_block zeros 0 B) zeros) c.write_block.ensures.has in
    let head : c.unwrap.result.bytes.now ≡ block_at c.write_block.new.card 0 = (whole_some c.write_block.new.card 0 c.unwrap.result.bytes.now (sym (ap bytes_of c.unwrap.ensures) ∙ c.read.ensures)).1 in
    let value : c.sum.result ≡ check_of (head_of 2 1)
    = c.sum.ensures ∙ ap check_of (head ∙ (ap (λ (xs : List ℕ). block_at xs 0) card ∙ put_there zeros 0 (omega arith) B long)) in
    record { value = value; tried = value ∙ head_sum }
