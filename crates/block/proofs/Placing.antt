-- A block that is put in its place on a card stands there.
use Rattle.std.proofs.Common.{◌≡◌, ℕ, ◌+◌, ◌*◌, ◌<◌, ◌≤◌, min, List, ◌++◌, length, take, drop, ℤ, sym, ap, ◌∙◌, arith}
use borrow.Rule.Slice.PartMut.{put_mid}
use Rattle.std.proofs.lemmas.List.{take_all, take_at, drop_at, append_assoc, length-take-le, length-take}
use Rattle.std.proofs.lemmas.Slice.{put_mid-paste}
use Rattle.block.specs.Blocks.{block_at, block_of, numbers_of, Fit}
use Rattle.block.specs.Checks.{block_check}
use Rattle.block.specs.Writes.{put_block, Stands}
use Rattle.block.proofs.Laying.{length_block, length_part}
use Rattle.block.proofs.RoundTrip.{passes, block_passed, block_read}

module _ (card : List ℕ) (k : ℕ) (room : k * 512 + 512 ≤ length card) where
  pub placed : (size : ℕ) (new block : List ℕ) → new ≡ block → length block ≡ 512 → 512 ≡ size → put_mid (k * 512) size card new ≡ put_block card k block
  placed size new block e long same = put_mid-paste (k * 512) size card new block 512 e same (sym long)

  pub put_there : (block : List ℕ) → length block ≡ 512 → block_at (put_block card k block) k ≡ block
  put_there block long =
      let front : length (take (k * 512) card) ≡ k * 512 = length-take-le (k * 512) card (omega arith) in
      let rest : List ℕ = drop (k * 512 + 512) card in
      ap (λ (b : List ℕ). take 512 (drop (k * 512) (take (k * 512) card ++ b ++ rest))) (take_all 512 block (omega arith))
      ∙ (ap (λ (xs : List ℕ). take 512 (drop (k * 512) xs)) (append_assoc (take (k * 512) card) block rest)
      ∙ (ap (take 512) (drop_at (take (k * 512) card) (block ++ rest) (k * 512) front) ∙ take_at block rest 512 long))

  pub stands : (letter : ℕ) (nums : List ℤ) → k < 65536 → Fit (take 126 nums) → Stands (put_block card k (block_of letter k (take 126 nums))) letter k nums
  stands letter nums few fits =
      let part : List ℤ = take 126 nums in
      let B : List ℕ = block_of letter k (take 126 nums) in
      let short : length (take 126 nums) ≤ 126 = length_part nums in
      let count : min 126 (length nums) ≡ length (take 126 nums) = sym (length-take 126 nums) in
      let there : block_at (put_block card k B) k ≡ B = put_there B (length_block letter k part short) in
      record {
        passes = ap (λ (b : List ℕ). block_check b letter k (min 126 (length nums))) there
            ∙ (ap (block_check B letter k) count ∙ passes B letter k (length part) (block_passed letter k part few short));
        reads = ap (λ (b : List ℕ). numbers_of b (min 126 (length nums))) there ∙ (ap (numbers_of B) count ∙ block_read letter k part few short fits);
      }
