use Rattle.std.proofs.Common.{◌≡◌, ℕ, List, [], ◌∷◌, replicate, refl, ap, ◌∙◌, rules}
use lib.Seq.{paste}
use Rattle.block.specs.Kinds.{letter_of}
use Rattle.block.proofs.Laying.{all_written}
use Rattle.block.proofs.writes.fill_block.Goals as goal

pub returns-clause-value : goal.returns-clause-value
returns-clause-value c =
    let zeros : c.fill.new.self ≡ replicate 512 0
    = c.fill.ensures.after (λ y e. search rules) ∙ ap (λ (n : ℕ). replicate n 0) c.requires.1 in
    let begun : c.put.new.bytes ≡ paste (replicate 512 0) 0 (letter_of c.args.kind ∷ []) 1
    = c.put.ensures ∙ (ap (λ (o : List ℕ). paste o 0 (c.letter.result ∷ []) 1) zeros ∙ ap (λ (l : ℕ). paste (replicate 512 0) 0 (l ∷ []) 1) c.letter.ensures) in
    all_written (letter_of c.args.kind) c.args.number c.args.numbers.now c.requires.0 refl begun c.to_le_bytes.ensures c.put-2.ensures c.put_numbers.ensures.value
    c.sum_of-sum.ensures c.to_le_bytes-2.ensures c.put-3.ensures
